-- One entry, and one element: each test that fails decides, and where none does they hold.
-- Assumes nothing.
use Prim.Native.Nat.{ℕ, ◌+◌, ◌<◌}
use mathlib.Core.Path.{◌≡◌, refl, sym, ◌∙◌}
use mathlib.Core.Bool.{Bool, true, false, ◌&&◌, not}
use native.Mathlib.Omega.{arith}
use borrow.Author.Tests.{not-true, not-false, lt-ltb, le-ltb, le-leb}
use lib.Dec.{leb, eqb}
use Rattle.std.specs.Ordering.{partial_lt}
use Rattle.definitions.specs.Limits.{max32}
use Rattle.definitions.specs.Usage.{Size, fixed, dynamic}
use Rattle.definitions.specs.Place.{ends, past32, ◌≤ˢ◌}
use Rattle.qptr.specs.declared.MaxSize.{MaxSize}
use Rattle.qptr.specs.declared.MaxSize.TheVariants.{Fixed}
use Rattle.qptr.specs.contracts.MaxSizePartialEq.TheImpl.{eq-value as size_eq}
use Rattle.qptr.specs.contracts.MaxSizePartialOrd.TheImpl.{partial_cmp-value as size_cmp}
use Rattle.qptr.specs.Values.{size_of}
use Rattle.qptr.proofs.Orders.{less_size, same_size}
use Rattle.soundness.specs.Own.{follows, fills}

-- an entry at o; early is whether it starts before the place, some whether it is not empty

first_fails : (a b c : Bool) → a ≡ false → (a && (b && not c)) ≡ false
first_fails a b c e = rw e refl

second_fails : (a b c : Bool) → b ≡ false → (a && (b && not c)) ≡ false
second_fails true b c e = rw e refl
second_fails false b c e = refl

third_fails : (a b c : Bool) → c ≡ true → (a && (b && not c)) ≡ false
third_fails true true c e = rw e refl
third_fails true false c e = refl
third_fails false b c e = refl

module _ (place : MaxSize) (o : ℕ) (early : Bool) (e : early ≡ partial_lt size_cmp.it (Fixed o) place) where
  starts : {b : Bool} → early ≡ b → not (size_of place ≤ˢ fixed o) ≡ b
  starts h = sym (less_size (Fixed o) place) ∙ sym e ∙ h

  pub starts_before : (z : Size) → early ≡ true → follows (size_of place) o z ≡ false
  unfolding follows
  starts_before z h = first_fails _ _ _ (not-true (size_of place ≤ˢ fixed o) (starts h))

  pub empty : (z : Size) (some : Bool) → some ≡ (fixed 1 ≤ˢ z) → some ≡ false → follows (size_of place) o z ≡ false
  unfolding follows
  empty z some f h = second_fails (size_of place ≤ˢ fixed o) _ (past32 (ends o z)) (sym f ∙ h)

  pub too_far : (n : ℕ) → (o + n < 4294967296 → ⊥) → follows (size_of place) o (fixed n) ≡ false
  unfolding follows
  too_far n h = third_fails (size_of place ≤ˢ fixed o) (leb 1 n) _ (lt-ltb max32 (o + n) (omega arith))

  pub follows_dynamic : early ≡ false → follows (size_of place) o dynamic ≡ true
  unfolding follows
  follows_dynamic h = rw (not-false (size_of place ≤ˢ fixed o) (starts h)) refl

  pub follows_fixed : (n : ℕ) (some : Bool) → early ≡ false → some ≡ leb 1 n → some ≡ true → o + n < 4294967296 → follows (size_of place) o (fixed n) ≡ true
  unfolding follows
  follows_fixed n some h f g l = rw (not-false (size_of place ≤ˢ fixed o) (starts h), sym f ∙ g, le-ltb max32 (o + n) (omega arith)) refl

-- an element

pub fills_same : (n : ℕ) (z : MaxSize) (r : Bool) → (n ≡ 0 → ⊥) → r ≡ size_eq.it z (Fixed n) → r ≡ fills n (size_of z)
unfolding fills
fills_same n z r some e = rw (le-leb 1 n (omega arith)) (e ∙ same_size z n)

pub fills_nothing : (n : ℕ) (z : Size) → n ≡ 0 → not (eqb n 0) ≡ fills n z
unfolding fills
fills_nothing n z e = rw e refl
