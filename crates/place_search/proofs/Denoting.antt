-- Numbers that stand for places are in their order: a dynamic place's number is above that of any fixed one, and not past 32 bits.
-- Assumes nothing.
use Prim.Native.Nat.{ℕ, ◌<◌, ◌≤◌}
use mathlib.Core.Path.{◌≡◌, refl}
use mathlib.Core.Bool.{true, false}
use native.Mathlib.Omega.{arith}
use borrow.Author.Tests.{le-leb, lt-leb}
use Rattle.definitions.specs.Usage.{Size, fixed, dynamic}
use Rattle.definitions.specs.Place.{◌≤ˢ◌}
use Rattle.place_search.specs.Numbers.{Denotes}

pub marks_le : {e f : ℕ} (z y : Size) → Denotes e z → Denotes f y → e ≤ f → (z ≤ˢ y) ≡ true
marks_le z dynamic M N le = refl
marks_le dynamic (fixed n) M N le = absurd (omega (arith, M.is, N.is, N.small))
marks_le (fixed m) (fixed n) M N le = le-leb m n (omega (arith, M.is, N.is))

pub marks_lt : {e f : ℕ} (z y : Size) → Denotes e z → Denotes f y → f < e → (z ≤ˢ y) ≡ false
marks_lt dynamic dynamic M N lt = absurd (omega (arith, M.is, N.is))
marks_lt (fixed m) dynamic M N lt = absurd (omega (arith, M.is, M.small, N.is))
marks_lt dynamic (fixed n) M N lt = refl
marks_lt (fixed m) (fixed n) M N lt = lt-leb m n (omega (arith, M.is, N.is))
