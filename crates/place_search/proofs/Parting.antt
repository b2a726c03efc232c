-- The entries of the map are those below, those behind the cut that start before e, and the others.
-- Assumes nothing.
use Prim.Native.Nat.{ℕ, ◌+◌, ◌*◌, ◌≤◌}
use mathlib.Core.Path.{◌≡◌, refl, sym, ap, ◌∙◌, subst}
use mathlib.Core.Bool.{Bool, true, false}
use mathlib.Core.List.{List}
use Rattle.std.specs.Prelude.{Result as Returned, Ok, Err}
use native.Mathlib.Decide.{ℕ_discrete}
use native.Mathlib.Omega.{arith}
use lib.ListN.{length}
use Rattle.definitions.specs.Usage.{Size, Entries, none, entry, count, ◌<+>◌}
use Rattle.records.specs.Records.{next_in, offset_in}
use Rattle.record_links.specs.Standing.{Row}
use Rattle.record_links.specs.Rows.{Up, link, onto}
use Rattle.record_links.proofs.Stands.{stands_root, link_suc}
use Rattle.record_links.proofs.Entries.{append_count, rev_app, rev_rev}
use Rattle.record_links.proofs.Rows.{row_none, row_app, up_run, up_one}
use Rattle.place_search.specs.Numbers.{Denotes}
use Rattle.place_search.specs.Parts.{any_past, LastEndsBy, Parted, Told}
use Rattle.place_search.specs.Seeking.{Linked, Before, Begun, Skips, Sought}
use Rattle.place_search.specs.Cutting.{Above, Behind, Cuts, Between, Reaches, Found}
use Rattle.place_search.specs.declared.Overlap.{Overlap}
use Rattle.place_search.proofs.Skipping.{last_ended}
use Rattle.place_search.proofs.Filling.{starts_at}

-- what is there behind the cut

pub reaches : {s : List ℕ} {q d e l p : ℕ} → Linked s q 0 → Cuts s q d e l p → Reaches s q l p
reaches {s} {q} {d} {e} {l} {p} L C = record { none = none_reached; one = one_reached }
  where
    none_reached : l ≡ 0 → Between s q p
    none_reached z =
        let A = C.none z L.es L.r L.lo L.hi L.row in
        record { linked = L; mid = A.mid; high = A.high; r = L.r; lo = L.lo; m = A.n; hi = L.hi; mid_held = A.mid_held; high_held = A.high_held }

    one_reached : (l ≡ 0 → ⊥) → (l * 32 + 32 ≤ length s) × Between s (next_in s l) p
    one_reached ne =
        let B = C.one ne L.es L.r L.lo L.hi L.row in
        let A = B.above in
        let c : count L.es ≡ count B.init + count (entry (offset_in s l) B.u B.rest) = ap count B.is ∙ append_count B.init (entry (offset_in s l) B.u B.rest) in (
          (stands_root B.u s l L.r B.m B.n B.stands).inside,
          record {
            linked = record {
              es = B.rest;
              r = L.r;
              lo = B.n;
              hi = L.hi;
              row = subst (λ (x : Entries). Row x s (next_in s l) 0 L.r B.n L.hi) (sym A.is) (row_app A.mid A.high s (next_in s l) p 0 L.r B.n A.n L.hi A.mid_held A.high_held);
              few = omega (arith, c, L.few);
              linkable = L.linkable;
            };
            mid = A.mid;
            high = A.high;
            r = L.r;
            lo = B.n;
            m = A.n;
            hi = L.hi;
            mid_held = A.mid_held;
            high_held = A.high_held;
          },
        )

-- those up to low, and those from f on, of which the ones before p overlap

parted : (es x rest : Entries) (r : ℕ → ℕ) (lo m hi : ℕ) (s : List ℕ) (a d : ℕ) (z : Size) (e low f p : ℕ) (b : Overlap) (c : Bool) → Denotes e z → b.low ≡ low → b.first ≡ f → b.above ≡ p → es ≡ onto x rest → Up x s a low r lo m → link s a low ≡ f → LastEndsBy d z (onto x none)
    → (A : Above rest r m hi s f d e p) → c ≡ any_past A.mid → Parted es r lo hi s a d z b c
parted es x rest r lo m hi s a d z e low f p b c M el ef ep is U lk en A ea = record {
  low_down = x;
  mid = A.mid;
  high = A.high;
  m = m;
  n = A.n;
  is = is ∙ ap (onto x) A.is ∙ rev_app x (A.mid <+> A.high);
  low_held = subst (λ (y : ℕ). Up x s a y r lo m) (sym el) U;
  linked = ap (link s a) el ∙ lk ∙ sym ef;
  low_ended = en;
  mid_held = subst (λ (y : ℕ). Row A.mid s y b.above r m A.n) (sym ef) (subst (λ (y : ℕ). Row A.mid s f y r m A.n) (sym ep) A.mid_held);
  mid_crossing = A.mid_crossing z M;
  mid_past = ea;
  high_held = subst (λ (y : ℕ). Row A.high s y 0 r A.n hi) (sym ep) A.high_held;
  high_starts = A.high_starts z M;
}

module _ {s : List ℕ} {d e low q l p : ℕ} (C : Cuts s q d e l p) where
  parted_by : (b : Overlap) (c : Bool) → Found s low q l p b c → (z : Size) (es : Entries) (r : ℕ → ℕ) (lo hi a : ℕ) → Denotes e z → Begun es r lo hi s a d z low q → Parted es r lo hi s a d z b c
  unfolding onto
  parted_by b c F z es r lo hi a M B = elim (ℕ_discrete l 0) [
    | yes h ↦
        let A : Above B.rest r B.m hi s q d e p = C.none h B.rest r B.m hi B.row in
        let f = F.none h in
        let ea : c ≡ any_past A.mid = F.past.of A.mid A.high r B.m A.n hi (subst (λ (y : ℕ). Row A.mid s y p r B.m A.n) (sym f.1) A.mid_held) A.high_held in
        parted es B.below B.rest r lo B.m hi s a d z e low q p b c M f.0 f.1 F.above B.is B.up B.linked B.ended A ea
    | no h ↦
        let K : Behind B.rest r B.m hi s q d e l p = C.one h B.rest r B.m hi B.row in
        let A : Above K.rest r K.n hi s (next_in s l) d e p = K.above in
        let f = F.one h in
        let o = offset_in s l in
        let some = (stands_root K.u s l r K.m K.n K.stands).some in
        let w = up_run K.init B.below s a low q l r lo B.m K.m B.up B.linked K.init_held in
        let ea : c ≡ any_past A.mid = F.past.of A.mid A.high r K.n A.n hi (subst (λ (y : ℕ). Row A.mid s y p r K.n A.n) (sym f.1) A.mid_held) A.high_held in
        parted es (entry o K.u (onto K.init B.below)) K.rest r lo K.n hi s a d z e l (next_in s l) p b c M f.0 f.1 F.above
        (B.is ∙ ap (onto B.below) K.is ∙ sym (rev_rev K.init B.below (entry o K.u K.rest)))
        (up_one s a o K.u (onto K.init B.below) l w.0 r lo K.m K.n refl w.2 K.stands w.1) (link_suc s a l some)
        (last_ended (onto K.init B.below) o K.u d z (K.starts z M) K.ends) A ea
  ]

  pub sought_found : (o : Returned Overlap Overlap) → Told (Found s low q l p) o → Sought s d e low q o
  sought_found (Ok b) F = record { sought = parted_by b false F }
  sought_found (Err b) F = record { sought = parted_by b true F }

-- where none is left that starts before e, none overlaps

pub sought_none : {s : List ℕ} {d e low q low' q' : ℕ} {c : Bool} → Skips s d e low q low' q' → Before s e q' c → c ≡ false → Sought s d e low q (Ok (record { low = low'; first = q'; above = q' }))
sought_none {s} {d} {e} {low' = low'} {q' = q'} K S stop = record {
  sought = λ z es r lo hi a M B₀.
      let B = K.skips z es r lo hi a M B₀ in
      parted es B.below B.rest r lo B.m hi s a d z e low' q' q' (record { low = low'; first = q'; above = q' }) false M refl refl refl B.is B.up B.linked B.ended
      (record { mid = none; high = B.rest; n = B.m; is = refl; mid_held = row_none s q' r B.m; mid_crossing = λ y N. tt; high_held = B.row; high_starts = starts_at B.rest s q' r B.m hi (S.stopped stop) B.row }) refl;
}

pub sought_behind : {s : List ℕ} {d e low q low' q' : ℕ} {b : Returned Overlap Overlap} → Skips s d e low q low' q' → Sought s d e low' q' b → Sought s d e low q b
sought_behind K S = record { sought = λ z es r lo hi a M B. S.sought z es r lo hi a M (K.skips z es r lo hi a M B) }
