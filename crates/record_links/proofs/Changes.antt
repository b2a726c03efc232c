-- A changed root: what lies below it has higher ranks, so it is still, and the usage is what the changed root says.
-- Assumes nothing.
use Prim.Native.Nat.{ℕ, suc, ◌+◌, ◌*◌, ◌≤◌, ◌<◌}
use mathlib.Core.Bool.{Bool}
use mathlib.Core.Path.{◌≡◌, refl, sym, ap, ◌∙◌, subst}
use mathlib.Core.List.{List}
use lib.ListN.{length}
use native.Mathlib.Omega.{arith}
use Rattle.definitions.specs.Usage.{Size, Usage, unused, leaf, map, array, size}
use Rattle.definitions.specs.Command.{typed_command}
use Rattle.definitions.specs.Place.{with_size}
use Rattle.records.specs.Records.{Cell, cell, command_in, child_in, size_in, argument_in, with_size as sized, with_type, Set}
use Rattle.record_links.specs.Standing.{Root, Stands, Row}
use Rattle.record_links.proofs.Stands.{stands_root, finger_still, stands_still, row_still, row_low, stands_wide}

-- a record that is written is the root that it says
root_of : (s s' : List ℕ) (q : ℕ) (r : ℕ → ℕ) (lo hi : ℕ) (c : Cell) (k : ℕ) (z : Size) → length s' ≡ length s → Set s s' q c → c.command ≡ k → c.size ≡ z
    → 1 ≤ q → q * 32 + 32 ≤ length s → lo ≤ r q → r q < hi → Root s' q r lo hi k z
root_of s s' q r lo hi c k z len S ek ez some inside low high = record {
  some = some;
  inside = omega arith;
  low = low;
  high = high;
  command = ap (λ (x : Cell). x.command) S.here ∙ ek;
  size = ap (λ (x : Cell). x.size) S.here ∙ ez;
}

pub root_set : (s s' : List ℕ) (q : ℕ) (r : ℕ → ℕ) (lo hi : ℕ) (c : Cell) (k : ℕ) (z : Size) → length s' ≡ length s → Set s s' q c → c.command ≡ command_in s q → Root s q r lo hi k z
    → Root s' q r lo hi k c.size
root_set s s' q r lo hi c k z len S ek R = root_of s s' q r lo hi c k c.size len S (ek ∙ R.command) refl R.some R.inside R.low R.high

-- the command, the child and the argument stay
pub stands_set : (u : Usage) (s s' : List ℕ) (q : ℕ) (r : ℕ → ℕ) (lo hi : ℕ) (c : Cell) → length s' ≡ length s → Set s s' q c → c.command ≡ command_in s q → c.child ≡ child_in s q → c.argument ≡ argument_in s q
    → Stands u s q r lo hi → Stands (with_size c.size u) s' q r lo hi
unfolding Stands
stands_set (unused z) s s' q r lo hi c len S ek ec et h = root_set s s' q r lo hi c 0 z len S ek h
stands_set (leaf z k t) s s' q r lo hi c len S ek ec et h = (root_set s s' q r lo hi c (typed_command k) z len S ek h.0, ap (λ (x : Cell). x.argument) S.here ∙ et ∙ h.1)
stands_set (map z es) s s' q r lo hi c len S ek ec et h =
    let e : child_in s' q ≡ child_in s q = ap (λ (x : Cell). x.child) S.here ∙ ec in (
      root_set s s' q r lo hi c 3 z len S ek h.0,
      finger_still es s s' q q r (suc (r q)) hi e (ap (λ (x : Cell). x.argument) S.here ∙ et) (λ i a b. S.others i (λ e. omega (arith, ap r e))) h.2 h.1,
      subst (λ (x : ℕ). Row es s' x 0 r (suc (r q)) hi) (sym e) (row_still es s s' (child_in s q) 0 r r (suc (r q)) hi len (λ i a b. (S.others i (λ e. omega (arith, ap r e)), refl)) h.2),
    )
stands_set (array z n e) s s' q r lo hi c len S ek ec et h = (
  root_set s s' q r lo hi c 4 z len S ek h.0,
  ap (λ (x : Cell). x.argument) S.here ∙ et ∙ h.1,
  subst (λ (x : ℕ). Stands e s' x r (suc (r q)) hi) (sym (ap (λ (x : Cell). x.child) S.here ∙ ec))
      (stands_still e s s' (child_in s q) r r (suc (r q)) hi len (λ i a b. (S.others i (λ e. omega (arith, ap r e)), refl)) h.2),
)

pub resize_own : (u : Usage) → with_size (size u) u ≡ u
resize_own (unused z) = refl
resize_own (leaf z k t) = refl
resize_own (map z es) = refl
resize_own (array z n e) = refl

-- the same usage, where the size stays too: another offset, another link, another count
pub stands_relink : (u : Usage) (s s' : List ℕ) (q : ℕ) (r : ℕ → ℕ) (lo hi : ℕ) (c : Cell) → length s' ≡ length s → Set s s' q c → c.command ≡ command_in s q → c.child ≡ child_in s q → c.size ≡ size_in s q → c.argument ≡ argument_in s q
    → Stands u s q r lo hi → Stands u s' q r lo hi
stands_relink u s s' q r lo hi c len S ek ec ez et h =
    subst (λ (v : Usage). Stands v s' q r lo hi) (ap (λ (z : Size). with_size z u) (ez ∙ (stands_root u s q r lo hi h).size) ∙ resize_own u) (stands_set u s s' q r lo hi c len S ek ec et h)

-- another size
pub stands_resize : (u : Usage) (s s' : List ℕ) (q : ℕ) (r : ℕ → ℕ) (lo hi : ℕ) (z : Size) → length s' ≡ length s → Set s s' q (sized z (cell s q)) → Stands u s q r lo hi → Stands (with_size z u) s' q r lo hi
stands_resize u s s' q r lo hi z len S h = stands_set u s s' q r lo hi (sized z (cell s q)) len S refl refl refl h

-- a leaf of another command and type
pub stands_type : (z : Size) (k : Bool) (t : ℕ) (k' : Bool) (t' : ℕ) (s s' : List ℕ) (q : ℕ) (r : ℕ → ℕ) (lo hi c : ℕ) → length s' ≡ length s → c ≡ typed_command k' → Set s s' q (with_type c t' (cell s q))
    → Stands (leaf z k t) s q r lo hi → Stands (leaf z k' t') s' q r lo hi
unfolding Stands
stands_type z k t k' t' s s' q r lo hi c len ek S h =
    let R = h.0 in
    (root_of s s' q r lo hi (with_type c t' (cell s q)) (typed_command k') z len S ek R.size R.some R.inside R.low R.high, ap (λ (x : Cell). x.argument) S.here)

-- the root x is copied over record l, whose rank is lower

home : (s s' : List ℕ) (x l : ℕ) (r : ℕ → ℕ) (lo hi c : ℕ) (k : Cell) (q : ℕ) (z : Size) → length s' ≡ length s → Set s s' l k → k.command ≡ command_in s x → k.size ≡ size_in s x → 1 ≤ l → l * 32 + 32 ≤ length s → lo ≤ r l → r l < c
    → Root s x r c hi q z → Root s' l r lo hi q z
home s s' x l r lo hi c k q z len S ek ez some ins ll lc R = root_of s s' l r lo hi k q z len S (ek ∙ R.command) (ez ∙ R.size) some ins ll (omega (arith, R.low, R.high))

pub rehome : (u : Usage) (s s' : List ℕ) (x l : ℕ) (r : ℕ → ℕ) (lo hi c : ℕ) (k : Cell) → length s' ≡ length s → Set s s' l k → k.command ≡ command_in s x → k.child ≡ child_in s x → k.size ≡ size_in s x → k.argument ≡ argument_in s x
    → 1 ≤ l → l * 32 + 32 ≤ length s → lo ≤ r l → r l < c → Stands u s x r c hi → Stands u s' l r lo hi
unfolding Stands
rehome (unused z) s s' x l r lo hi c k len S ek ec ez et some ins ll lc h = home s s' x l r lo hi c k 0 z len S ek ez some ins ll lc h
rehome (leaf z b t) s s' x l r lo hi c k len S ek ec ez et some ins ll lc h = (home s s' x l r lo hi c k (typed_command b) z len S ek ez some ins ll lc h.0, ap (λ (y : Cell). y.argument) S.here ∙ et ∙ h.1)
rehome (map z es) s s' x l r lo hi c k len S ek ec ez et some ins ll lc h =
    let R = h.0 in
    let e : child_in s' l ≡ child_in s x = ap (λ (y : Cell). y.child) S.here ∙ ec in (
      home s s' x l r lo hi c k 3 z len S ek ez some ins ll lc R,
      finger_still es s s' x l r (suc (r x)) hi e (ap (λ (y : Cell). y.argument) S.here ∙ et) (λ i a b. S.others i (λ q. omega (arith, ap r q, R.low))) h.2 h.1,
      subst (λ (y : ℕ). Row es s' y 0 r (suc (r l)) hi) (sym e)
          (row_low es s' (child_in s x) 0 r (suc (r x)) (suc (r l)) hi (omega (arith, R.low))
          (row_still es s s' (child_in s x) 0 r r (suc (r x)) hi len (λ i a b. (S.others i (λ q. omega (arith, ap r q, R.low)), refl)) h.2)),
    )
rehome (array z n e) s s' x l r lo hi c k len S ek ec ez et some ins ll lc h =
    let R = h.0 in (
      home s s' x l r lo hi c k 4 z len S ek ez some ins ll lc R,
      ap (λ (y : Cell). y.argument) S.here ∙ et ∙ h.1,
      subst (λ (y : ℕ). Stands e s' y r (suc (r l)) hi) (sym (ap (λ (y : Cell). y.child) S.here ∙ ec))
          (stands_wide e s' (child_in s x) r (suc (r x)) hi (suc (r l)) hi (omega (arith, R.low)) (omega arith)
          (stands_still e s s' (child_in s x) r r (suc (r x)) hi len (λ i a b. (S.others i (λ q. omega (arith, ap r q, R.low)), refl)) h.2)),
    )
