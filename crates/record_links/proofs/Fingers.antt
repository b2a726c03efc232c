-- A finger parts the entries of its map: the walk from the first one to it has told those up to it, and those behind it follow.
-- Assumes nothing.
use Prim.Native.Nat.{ℕ, zero, suc, ◌≤◌}
use mathlib.Core.Path.{◌≡◌, refl, sym, ap, ◌∙◌, subst}
use mathlib.Core.List.{List}
use lib.ListN.{length}
use native.Mathlib.Omega.{arith}
use Rattle.definitions.specs.Usage.{Size, map, Entries, none, entry, count}
use Rattle.records.specs.Records.{Cell, cell, next_in, child_in, argument_in, with_argument, Set}
use Rattle.record_links.specs.Standing.{Root, walk, reached, Finger, Stands, Row}
use Rattle.record_links.specs.Rows.{onto, link, Up}
use Rattle.record_links.proofs.Stands.{stands_root, link_suc, link_zero, reached_still, row_still}
use Rattle.record_links.proofs.Entries.{count_onto}
use Rattle.record_links.proofs.Rows.{up_none, up_one, unzip}
use Rattle.record_links.proofs.Changes.{root_set}

-- From a finger

pub record Parted (es : Entries) (s : List ℕ) (a f : ℕ) (r : ℕ → ℕ) (lo hi : ℕ) : Type 0 where
  pub lr : Entries
  pub left : Entries
  pub m : ℕ
  pub is : es ≡ onto lr left
  pub up : Up lr s a f r lo m
  pub row : Row left s (link s a f) 0 r m hi

walk_parted : (es lr : Entries) (s : List ℕ) (a l q : ℕ) (r : ℕ → ℕ) (lo m hi i : ℕ) → suc i ≤ count es → Up lr s a l r lo m → link s a l ≡ q → Row es s q 0 r m hi → Parted (onto lr es) s a (walk s q i) r lo hi
unfolding Stands walk onto
walk_parted none lr s a l q r lo m hi i le U e h = absurd (omega arith)
walk_parted (entry o u es) lr s a l q r lo m hi zero le U e h =
    let R = stands_root u s q r m h.0 h.2 in
    record {
      lr = entry o u lr;
      left = es;
      m = h.0;
      is = refl;
      up = up_one s a o u lr q l r lo m h.0 h.1 e h.2 U;
      row = subst (λ (x : ℕ). Row es s x 0 r h.0 hi) (sym (link_suc s a q R.some)) h.3;
    }
walk_parted (entry o u es) lr s a l q r lo m hi (suc i) le U e h =
    let R = stands_root u s q r m h.0 h.2 in
    walk_parted es (entry o u lr) s a q (next_in s q) r lo h.0 hi i (omega arith) (up_one s a o u lr q l r lo m h.0 h.1 e h.2 U) (link_suc s a q R.some) h.3

pub finger_split : (es : Entries) (s : List ℕ) (a : ℕ) (r : ℕ → ℕ) (lo hi : ℕ) → Finger es s a → Row es s (child_in s a) 0 r lo hi → Parted es s a (argument_in s a) r lo hi
unfolding reached onto link
finger_split es s a r lo hi F h = subst (λ (f : ℕ). Parted es s a f r lo hi) (sym F.is) (go F.index F.upto)
  where
    go : (i : ℕ) → i ≤ count es → Parted es s a (reached s a i) r lo hi
    go zero le = record { lr = none; left = es; m = lo; is = refl; up = up_none s a r lo; row = h }
    go (suc i) le = walk_parted es none s a 0 (child_in s a) r lo lo hi i le (up_none s a r lo) refl h

-- To a finger

walk_next : (s : List ℕ) (q i : ℕ) → walk s (next_in s q) i ≡ next_in s (walk s q i)
unfolding walk
walk_next s q zero = refl
walk_next s q (suc i) = walk_next s (next_in s q) i

up_reached : (es : Entries) (s : List ℕ) (a l : ℕ) (r : ℕ → ℕ) (lo hi : ℕ) → Up es s a l r lo hi → l ≡ reached s a (count es)
unfolding Up reached walk
up_reached none s a l r lo hi h = h.0
up_reached (entry o u none) s a l r lo hi h = sym h.3 ∙ link_zero s a h.1 h.5.0
up_reached (entry o u (entry o' u' es)) s a l r lo hi h =
    let p : ℕ = h.1 in
    let R = stands_root u' s p r h.5.0 h.0 h.5.4 in
    let e : p ≡ walk s (child_in s a) (count es) = up_reached (entry o' u' es) s a p r lo h.0 h.5 in
    sym h.3 ∙ link_suc s a p R.some ∙ ap (next_in s) e ∙ sym (walk_next s (child_in s a) (count es))

-- the map whose finger is set to the last of its entries that are told from the highest down
pub map_finger : (z : Size) (lr left : Entries) (s s' : List ℕ) (a l : ℕ) (r : ℕ → ℕ) (lo m hi : ℕ) → length s' ≡ length s → Set s s' a (with_argument l (cell s a))
    → Root s a r lo hi 3 z → Up lr s a l r (suc (r a)) m → Row left s (link s a l) 0 r m hi → Stands (map z (onto lr left)) s' a r lo hi
unfolding Stands
map_finger z lr left s s' a l r lo m hi len S R U t =
    let ec : child_in s' a ≡ child_in s a = ap (λ (x : Cell). x.child) S.here in
    let h : Row (onto lr left) s (child_in s a) 0 r (suc (r a)) hi = unzip lr left s a l r (suc (r a)) m hi U t in
    let le : count lr ≤ count (onto lr left) = omega (arith, count_onto lr left) in (
      subst (Root s' a r lo hi 3) R.size (root_set s s' a r lo hi (with_argument l (cell s a)) 3 z len S refl R),
      record {
        index = count lr;
        upto = le;
        is = ap (λ (x : Cell). x.argument) S.here ∙ up_reached lr s a l r (suc (r a)) m U
            ∙ sym (reached_still (onto lr left) s s' a a r (suc (r a)) hi (count lr) ec (λ i x y. S.others i (λ e. omega (arith, ap r e))) h le);
      },
      subst (λ (x : ℕ). Row (onto lr left) s' x 0 r (suc (r a)) hi) (sym ec) (row_still (onto lr left) s s' (child_in s a) 0 r r (suc (r a)) hi len (λ i x y. (S.others i (λ e. omega (arith, ap r e)), refl)) h),
    )
