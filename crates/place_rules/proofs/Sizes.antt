-- The refusal by sizes is what the tests say: 9 before 8, and 8 where the sum is past a's size, since then the larger of the two is not a's.
-- Assumes nothing.
use Rattle.std.proofs.Common.{◌≡◌, ℕ, ◌+◌, ◌^◌, ◌<◌, ◌≤◌, max, true, false, eqb, arith, le-ltb, lt-ltb, eq-eqb, ne_eqb}
use Rattle.definitions.specs.If.{when◌then◌else◌}
use Rattle.definitions.specs.Limits.{max32}
use Rattle.definitions.specs.Place.{size_refusal}
use Rattle.qptr.specs.Values.{size_of}
use Rattle.qptr.specs.declared.MaxSize.{MaxSize}
use Rattle.qptr.specs.declared.MaxSize.TheVariants.{Fixed}

module _ (a b : MaxSize) (d m : ℕ) (ea : a ≡ Fixed m) (n : ℕ) (eb : b ≡ Fixed n) where
  pub size_past : (d + n < 2 ^ 32 → ⊥) → 9 ≡ size_refusal (size_of a) d (size_of b)
  unfolding when◌then◌else◌
  size_past past = rw (ea, eb, lt-ltb max32 (d + n) (omega arith))

  module _ (end : ℕ) (low : (d + n < 2 ^ 32) × (end ≡ d + n)) where
    pub size_larger : m < end → 8 ≡ size_refusal (size_of a) d (size_of b)
    unfolding when◌then◌else◌
    size_larger past =
        let other : eqb (max m (d + n)) m ≡ false = ne_eqb (max m (d + n)) m (λ e. omega arith) in
        rw (ea, eb, le-ltb max32 (d + n) (omega arith), other)

    pub size_fits : end ≤ m → 0 ≡ size_refusal (size_of a) d (size_of b)
    unfolding when◌then◌else◌
    size_fits within =
        let same : eqb (max m (d + n)) m ≡ true = eq-eqb (max m (d + n)) m (omega arith) in
        rw (ea, eb, le-ltb max32 (d + n) (omega arith), same)
