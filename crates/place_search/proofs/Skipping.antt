-- Entries that start before e and end by d are stepped over; and the finger is such a step already.
-- Assumes nothing.
use Prim.Native.Nat.{ℕ, ◌+◌, ◌*◌, ◌<◌, ◌≤◌}
use mathlib.Core.Path.{◌≡◌, refl, sym, ap, ◌∙◌, subst}
use mathlib.Core.Bool.{Bool, true, false}
use mathlib.Core.List.{List}
use Rattle.std.specs.Prelude.{Result as Returned}
use native.Mathlib.Omega.{arith}
use lib.ListN.{length}
use Rattle.definitions.specs.Usage.{Size, fixed, Usage, Entries, none, entry, size, count}
use Rattle.definitions.specs.Place.{ends, ◌≤ˢ◌}
use Rattle.definitions.proofs.Nodes.{few_entries}
use Rattle.records.specs.Records.{next_in, child_in, size_in, argument_in, offset_in}
use Rattle.record_links.specs.Standing.{Row, Finger}
use Rattle.record_links.specs.Rows.{Up, link, onto, chain}
use Rattle.record_links.proofs.Entries.{rev_app, count_onto}
use Rattle.record_links.proofs.Stands.{stands_root, link_suc}
use Rattle.record_links.proofs.Fingers.{Parted as Fingered, finger_split}
use Rattle.record_links.proofs.Rows.{head, up_in, up_none, up_one}
use Rattle.place_search.specs.Numbers.{Denotes}
use Rattle.place_search.specs.Parts.{Listed, LastEndsBy, nothing, by, Parts}
use Rattle.place_search.specs.Seeking.{Linked, Within, Early, Passes, Begun, Skips, Sought}
use Rattle.place_search.specs.declared.Overlap.{Overlap}
use Rattle.place_search.proofs.Linking.{linked_inside, linked_within, linked_next, linked_less}

-- the last that was stepped over

pub last_ended : (x : Entries) (o : ℕ) (u : Usage) (d : ℕ) (z : Size) → (z ≤ˢ fixed o) ≡ false → (ends o (size u) ≤ˢ fixed d) ≡ true → LastEndsBy d z (onto (entry o u x) none)
unfolding onto
last_ended x o u d z hs he = subst (LastEndsBy d z) (sym (rev_app x (entry o u none))) (by (onto x none) o u hs he)

up_ended : (x : Entries) (s : List ℕ) (a p : ℕ) (r : ℕ → ℕ) (lo m d : ℕ) (z : Size) {e : ℕ} → Early s e p → (ends (offset_in s p) (size_in s p) ≤ˢ fixed d) ≡ true → Denotes e z → Up x s a p r lo m → LastEndsBy d z (onto x none)
unfolding Up
up_ended none s a p r lo m d z P E M U = absurd (P.some U.0)
up_ended (entry o u x) s a p r lo m d z P E M U =
    let R = stands_root u s p r U.0 m U.4 in
    last_ended x o u d z (subst (λ (y : ℕ). (z ≤ˢ fixed y) ≡ false) U.2 (P.starts z M))
    (subst (λ (y : ℕ). (ends y (size u) ≤ˢ fixed d) ≡ true) U.2 (subst (λ (y : Size). (ends (offset_in s p) y ≤ˢ fixed d) ≡ true) R.size E))

begun_at : (es x rest : Entries) (r : ℕ → ℕ) (lo m hi : ℕ) (s : List ℕ) (a d : ℕ) (z : Size) (p : ℕ) {e p' : ℕ} → Early s e p → (ends (offset_in s p) (size_in s p) ≤ˢ fixed d) ≡ true → Denotes e z → p' ≡ next_in s p → es ≡ onto x rest → Up x s a p r lo m
    → Row rest s (link s a p) 0 r m hi → Begun es r lo hi s a d z p p'
begun_at es x rest r lo m hi s a d z p P E M e is U h =
    let some : 1 ≤ p = omega (arith, P.some) in
    let el = link_suc s a p some ∙ sym e in
    record { below = x; rest = rest; m = m; is = is; up = U; linked = el; row = subst (λ (q : ℕ). Row rest s q 0 r m hi) el h; ended = up_ended x s a p r lo m d z P E M U }

begun_next : {es : Entries} {r : ℕ → ℕ} {lo hi : ℕ} {s : List ℕ} {a d : ℕ} {z : Size} {e l p p' : ℕ} → Early s e p → (ends (offset_in s p) (size_in s p) ≤ˢ fixed d) ≡ true → Denotes e z → p' ≡ next_in s p → Begun es r lo hi s a d z l p → Begun es r lo hi s a d z p p'
unfolding onto
begun_next {es} {r} {lo} {hi} {s} {a} {d} {z} {l = l} {p = p} P E M e B =
    let v = head B.rest s p 0 r B.m hi P.some B.row in
    let some = (stands_root v.u s p r B.m v.m v.stands).some in
    begun_at es (entry (offset_in s p) v.u B.below) v.rest r lo v.m hi s a d z p P E M e (B.is ∙ ap (onto B.below) v.is)
    (up_one s a (offset_in s p) v.u B.below p l r lo B.m v.m refl B.linked v.stands B.up) (subst (λ (q : ℕ). Row v.rest s q 0 r v.m hi) (sym (link_suc s a p some)) v.row)

-- the loop

module _ {s : List ℕ} {d e l q l' p : ℕ} (K : Skips s d e l q l' p) where
  pub skip_within : Within s p
  skip_within = linked_within K.there

  module _ {c : Bool} (P : Passes s p d e c) (ok : c ≡ true) where
    pub skip_inside : p * 32 + 32 ≤ length s
    skip_inside = (linked_inside K.there (P.early ok).some).0

    pub skip_less : {p' : ℕ} → p' ≡ next_in s p → chain 65536 s p' < chain 65536 s p
    skip_less eq = linked_less K.there (P.early ok).some eq

    pub skip_more : {l'' p' : ℕ} → l'' ≡ p → p' ≡ next_in s p → Skips s d e l q l'' p'
    skip_more {l''} {p'} el eq =
        subst (λ (x : ℕ). Skips s d e l q x p') (sym el) (record { there = linked_next K.there (P.early ok).some eq (omega arith); skips = λ z es r lo hi a M B. begun_next (P.early ok) (P.ends ok) M eq (K.skips z es r lo hi a M B) })

-- where it starts

begun_first : {es : Entries} {r : ℕ → ℕ} {lo hi : ℕ} {s : List ℕ} {a d : ℕ} {z : Size} {c : ℕ} → c ≡ child_in s a → Row es s (child_in s a) 0 r lo hi → Begun es r lo hi s a d z 0 c
unfolding onto link
begun_first {es} {r} {lo} {hi} {s} {a} e h = record {
  below = none;
  rest = es;
  m = lo;
  is = refl;
  up = up_none s a r lo;
  linked = sym e;
  row = subst (λ (q : ℕ). Row es s q 0 r lo hi) (sym e) h;
  ended = nothing;
}

-- the finger f

split_at : (es : Entries) (s : List ℕ) (a : ℕ) (r : ℕ → ℕ) (lo hi : ℕ) {f : ℕ} → f ≡ argument_in s a → Finger es s a → Row es s (child_in s a) 0 r lo hi → Fingered es s a f r lo hi
split_at es s a r lo hi e F h = subst (λ (f : ℕ). Fingered es s a f r lo hi) (sym e) (finger_split es s a r lo hi F h)

module _ {s : List ℕ} {a f : ℕ} (L : Listed s a) (e : f ≡ argument_in s a) where
  listed_split : Fingered L.es s a f L.r L.lo L.hi
  listed_split = split_at L.es s a L.r L.lo L.hi e L.finger L.row

  pub finger_within : Within s f
  finger_within = record { inside = λ ne. let F = listed_split in up_in F.lr s a f L.r L.lo F.m (length s) (omega (arith, L.inside)) (omega arith) F.up }

  module _ {d g : ℕ} {c : Bool} (P : Passes s f d g c) (ok : c ≡ true) where
    pub finger_inside : f * 32 + 32 ≤ length s
    finger_inside = finger_within.inside (P.early ok).some

    pub finger_linked : {q : ℕ} → q ≡ next_in s f → Linked s q 0
    finger_linked eq =
        let F = listed_split in
        let some : 1 ≤ f = omega (arith, (P.early ok).some) in
        let c : count L.es ≡ count F.lr + count F.left = ap count F.is ∙ count_onto F.lr F.left in
        record {
          es = F.left;
          r = L.r;
          lo = F.m;
          hi = L.hi;
          row = subst (λ (q : ℕ). Row F.left s q 0 L.r F.m L.hi) (link_suc s a f some ∙ sym eq) F.row;
          few = omega (arith, c, few_entries L.es, L.few);
          linkable = L.linkable;
        }

-- what was found from there on

pub parts_first : {s : List ℕ} {a d e c : ℕ} {b : Returned Overlap Overlap} → c ≡ child_in s a → Sought s d e 0 c b → Parts s a d e b
parts_first eq S = record { parted = λ z es r lo hi M h F. S.sought z es r lo hi _ M (begun_first eq h) }

pub parts_finger : {s : List ℕ} {a d e f l q : ℕ} {b : Returned Overlap Overlap} {c : Bool} → f ≡ argument_in s a → Passes s f d e c → c ≡ true → l ≡ f → q ≡ next_in s f → Sought s d e l q b → Parts s a d e b
parts_finger {s} {a} {d} {e} {f} {q = q} {b = b} ef Q ok el eq S =
    let T : Sought s d e f q b = subst (λ (x : ℕ). Sought s d e x q b) el S in
    record {
      parted = λ z es r lo hi M h F.
          let K = split_at es s a r lo hi ef F h in
          T.sought z es r lo hi a M (begun_at es K.lr K.left r lo K.m hi s a d z f (Q.early ok) (Q.ends ok) M eq K.is K.up K.row);
    }
