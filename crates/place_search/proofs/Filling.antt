-- A table is filled with the entries that start before e, one after the other along their links, and searched.
-- Assumes nothing.
use Prim.Native.Nat.{ℕ, suc, ◌+◌, ◌*◌, ◌<◌, ◌≤◌}
use mathlib.Core.Path.{◌≡◌, refl, sym, subst, ap, ◌∙◌}
use mathlib.Core.Bool.{Bool, true, false}
use mathlib.Core.List.{List}
use native.Mathlib.Omega.{arith}
use lib.ListN.{length, get_or, set, length-set}
use lib.Seq.{get_or-set_same, get_or-set_other}
use Rattle.definitions.specs.Usage.{Size, fixed, Usage, Entries, none, entry, size, count, ◌<+>◌}
use Rattle.definitions.specs.Place.{◌≤ˢ◌}
use Rattle.records.specs.Records.{next_in, size_in, offset_in}
use Rattle.record_links.specs.Standing.{Stands, Row}
use Rattle.record_links.proofs.Entries.{append_assoc, append_count}
use Rattle.record_links.proofs.Stands.{stands_root}
use Rattle.record_links.proofs.Rows.{Head, head, row_none, row_one, row_app}
use Rattle.place_search.specs.Table.{nothing_is, last_of, Tells, Filled}
use Rattle.place_search.specs.Numbers.{Denotes}
use Rattle.place_search.specs.Parts.{Crossing, Starts}
use Rattle.place_search.specs.Seeking.{Linked, Within, Stopped, Before}
use Rattle.place_search.specs.Cutting.{Above, Behind, Cuts}
use Rattle.place_search.specs.declared.Entry.{Entry}
use Rattle.place_search.proofs.Linking.{linked_inside, linked_within, linked_next}
use Rattle.place_search.proofs.Searching.{Later, Searched, passed, found, searched}

-- each starts before e
abbrev Upto : Size → Entries → Type 0
Upto e none = Unit {0}
Upto e (entry o u es) = ((e ≤ˢ fixed o) ≡ false) × Upto e es

-- of es, which are linked from record q on, those before record p start before e, and they are the first k rows of the table
pub record Tabled (es : Entries) (r : ℕ → ℕ) (lo hi : ℕ) (s : List ℕ) (q e : ℕ) (t : List Entry) (k p : ℕ) : Type 0 where
  front : Entries
  back : Entries
  m : ℕ
  is : es ≡ front <+> back
  held : Row front s q p r lo m
  before : (z : Size) → Denotes e z → Upto z front
  back_held : Row back s p 0 r m hi
  rows : Filled front t 0 s q
  count : count front ≡ k

-- the loop's invariant: so it is, whatever entries are linked there
pub record Filling (w : ℕ) (s : List ℕ) (q e : ℕ) (t : List Entry) (k p : ℕ) : Type 0 where
  pub long : length t ≡ w
  pub there : Linked s p k
  pub tabled : (es : Entries) (r : ℕ → ℕ) (lo hi : ℕ) → Row es s q 0 r lo hi → Tabled es r lo hi s q e t k p

pub fill_start : {w : ℕ} {s : List ℕ} {q : ℕ} (e : ℕ) {t : List Entry} → length t ≡ w → Linked s q 0 → Filling w s q e t 0 q
fill_start {s = s} {q = q} e l L = record {
  long = l;
  there = L;
  tabled = λ es r lo hi h. record { front = none; back = es; m = lo; is = refl; held = row_none s q r lo; before = λ z M. tt; back_held = h; rows = tt; count = refl };
}

-- rows that are as they were
rows_kept : (es : Entries) (t t' : List Entry) (k i : ℕ) (s : List ℕ) (q : ℕ) → ((j : ℕ) → j < k → get_or t' j nothing_is ≡ get_or t j nothing_is) → i + count es ≤ k → Filled es t i s q → Filled es t' i s q
rows_kept none t t' k i s q kept le h = tt
rows_kept (entry o u es) t t' k i s q kept le h =
    (subst (λ (x : Entry). Tells x o (size u) q) (sym (kept i (omega arith))) h.0, rows_kept es t t' k (suc i) s (next_in s q) kept (omega arith) h.1)

-- one row more
rows_more : (es : Entries) (t : List Entry) (i j : ℕ) (s : List ℕ) (q p : ℕ) (r : ℕ → ℕ) (lo m o : ℕ) (u : Usage) → j ≡ i + count es → Row es s q p r lo m → Filled es t i s q → Tells (get_or t j nothing_is) o (size u) p → Filled (es <+> entry o u none) t i s q
unfolding Stands
rows_more none t i j s q p r lo m o u ej h k x =
    let ej₁ : j ≡ i = omega arith in
    (subst (λ (y : ℕ). Tells (get_or t i nothing_is) o (size u) y) (sym h.0) (subst (λ (y : ℕ). Tells (get_or t y nothing_is) o (size u) p) ej₁ x), tt)
rows_more (entry o' u' es) t i j s q p r lo m o u ej h k x = (k.0, rows_more es t (suc i) j s (next_in s q) p r h.0 m o u (omega arith) h.3 k.1 x)

before_more : (e : Size) (es : Entries) (o : ℕ) (u : Usage) → Upto e es → (e ≤ˢ fixed o) ≡ false → Upto e (es <+> entry o u none)
before_more e none o u b h = (h, tt)
before_more e (entry o' u' es) o u b h = (b.0, before_more e es o u b.1 h)

module _ {w : ℕ} {s : List ℕ} {q e : ℕ} {t : List Entry} {k p : ℕ} {x : Entry} {p' : ℕ} {c : Bool} (G : Filling w s q e t k p) (B : Before s e p c) (ok : c ≡ true) (room : k < w) (T : Tells x (offset_in s p) (size_in s p) p) (eq : p' ≡ next_in s p) where
  ne : p ≡ 0 → ⊥
  ne = (B.early ok).some

  tabled_more : (es : Entries) (r : ℕ → ℕ) (lo hi : ℕ) → Row es s q 0 r lo hi → Tabled es r lo hi s q e (set t k x) (k + 1) p'
  tabled_more es r lo hi h =
      let P = G.tabled es r lo hi h in
      let v : Head P.back s p 0 r P.m hi = head P.back s p 0 r P.m hi ne P.back_held in
      let R = stands_root v.u s p r P.m v.m v.stands in
      let o = offset_in s p in
      let one = entry o v.u none in
      let t' = set t k x in
      let other : (j : ℕ) → j < k → get_or t' j nothing_is ≡ get_or t j nothing_is = λ j l. get_or-set_other t k j x nothing_is (omega arith) in
      let here : get_or t' k nothing_is ≡ x = get_or-set_same t k x nothing_is (omega (arith, G.long)) in
      let T₁ : Tells x o (size v.u) p = subst (λ (z : Size). Tells x o z p) R.size T in
      let T₂ : Tells (get_or t' k nothing_is) o (size v.u) p = subst (λ (y : Entry). Tells y o (size v.u) p) (sym here) T₁ in
      record {
        front = P.front <+> one;
        back = v.rest;
        m = v.m;
        is = P.is ∙ ap (λ (y : Entries). P.front <+> y) v.is ∙ sym (append_assoc P.front one v.rest);
        held = row_app P.front one s q p p' r lo P.m v.m P.held (row_one s o v.u none p p' r P.m v.m v.m refl v.stands (subst (λ (y : ℕ). Row none s (next_in s p) y r v.m v.m) (sym eq) (row_none s (next_in s p) r v.m)));
        before = λ z M. before_more z P.front o v.u (P.before z M) ((B.early ok).starts z M);
        back_held = subst (λ (y : ℕ). Row v.rest s y 0 r v.m hi) (sym eq) v.row;
        rows = rows_more P.front t' 0 k s q p r lo P.m o v.u (omega (arith, P.count)) P.held (rows_kept P.front t t' k 0 s q other (omega (arith, P.count)) P.rows) T₂;
        count = omega (arith, append_count P.front one, P.count);
      }

  pub fill_more : Filling w s q e (set t k x) (k + 1) p'
  fill_more = record { long = length-set t k x ∙ G.long; there = linked_next G.there ne eq (omega arith); tabled = tabled_more }

pub starts_at : (es : Entries) (s : List ℕ) (p : ℕ) (r : ℕ → ℕ) (lo hi : ℕ) {e : ℕ} → Stopped s e p → Row es s p 0 r lo hi → (z : Size) → Denotes e z → Starts z es
unfolding Stands
starts_at none s p r lo hi S h z M = tt
starts_at (entry o u es) s p r lo hi S h z M =
    let some = (stands_root u s p r lo h.0 h.2).some in
    subst (λ (y : ℕ). (z ≤ˢ fixed y) ≡ true) h.1 (S.starts (λ e. omega (arith, some)) z M)

-- the cut

before_split : (e : Size) (x y : Entries) → Upto e (x <+> y) → Upto e x × Upto e y
before_split e none y h = (tt, h)
before_split e (entry o u x) y h = let r = before_split e x y h.1 in ((h.0, r.0), r.1)

crossing : (d : ℕ) (e : Size) (es : Entries) → Upto e es → Later d es → Crossing d e es
crossing d e none b l = tt
crossing d e (entry o u es) b l = (b.0, l.0, crossing d e es b.1 l.1)

module _ {w : ℕ} {s : List ℕ} {q e : ℕ} {t : List Entry} {k p d l : ℕ} {c : Bool} (G : Filling w s q e t k p) (B : Before s e p c) (stop : c ≡ false) (el : l ≡ last_of t k d) where
  none_ended : l ≡ 0 → (es : Entries) (r : ℕ → ℕ) (lo hi : ℕ) → Row es s q 0 r lo hi → Above es r lo hi s q d e p
  none_ended z es r lo hi h = go (searched P.front r lo P.m s q p t 0 k d (omega (arith, P.count)) P.held P.rows)
    where
      P : Tabled es r lo hi s q e t k p
      P = G.tabled es r lo hi h

      go : Searched P.front r lo P.m s q p t 0 k d → Above es r lo hi s q d e p
      go (passed et la) = record {
        mid = P.front;
        high = P.back;
        n = P.m;
        is = P.is;
        mid_held = P.held;
        mid_crossing = λ y M. crossing d y P.front (P.before y M) la;
        high_held = P.back_held;
        high_starts = starts_at P.back s p r P.m hi (B.stopped stop) P.back_held;
      }
      go (found init u above l' m m' is hi' st end ha la et) = absurd (omega (arith, el, z, et, (stands_root u s l' r m m' st).some))

  one_ended : (l ≡ 0 → ⊥) → (es : Entries) (r : ℕ → ℕ) (lo hi : ℕ) → Row es s q 0 r lo hi → Behind es r lo hi s q d e l p
  one_ended ne es r lo hi h = go (searched P.front r lo P.m s q p t 0 k d (omega (arith, P.count)) P.held P.rows)
    where
      P : Tabled es r lo hi s q e t k p
      P = G.tabled es r lo hi h

      go : Searched P.front r lo P.m s q p t 0 k d → Behind es r lo hi s q d e l p
      go (passed et la) = absurd (ne (el ∙ et))
      go (found init u above l' m m' is hi' st end ha la et) =
          let parts : (y : Size) → Denotes e y → Upto y init × Upto y (entry (offset_in s l') u above) = λ y M. before_split y init (entry (offset_in s l') u above) (subst (Upto y) is (P.before y M)) in
          subst (λ (x : ℕ). Behind es r lo hi s q d e x p) (sym (el ∙ et)) (record {
            init = init;
            u = u;
            rest = above <+> P.back;
            m = m;
            n = m';
            is = P.is ∙ ap (λ (x : Entries). x <+> P.back) is ∙ append_assoc init (entry (offset_in s l') u above) P.back;
            init_held = hi';
            stands = st;
            starts = λ y M. (parts y M).1.0;
            ends = end;
            above = record {
              mid = above;
              high = P.back;
              n = P.m;
              is = refl;
              mid_held = ha;
              mid_crossing = λ y M. crossing d y above (parts y M).1.1 la;
              high_held = P.back_held;
              high_starts = starts_at P.back s p r P.m hi (B.stopped stop) P.back_held;
            };
          })

  pub cuts : Cuts s q d e l p
  cuts = record { none = none_ended; one = one_ended }

-- the record that is read, and the measure

pub fill_within : {w : ℕ} {s : List ℕ} {q e : ℕ} {t : List Entry} {k p : ℕ} → Filling w s q e t k p → Within s p
fill_within G = linked_within G.there

module _ {w : ℕ} {s : List ℕ} {q e : ℕ} {t : List Entry} {k p : ℕ} {c : Bool} (G : Filling w s q e t k p) (B : Before s e p c) (ok : c ≡ true) where
  pub fill_inside : p * 32 + 32 ≤ length s
  fill_inside = (linked_inside G.there (B.early ok).some).0

  pub fill_small : p < 65536
  fill_small = (linked_inside G.there (B.early ok).some).1
