-- Places as numbers of 64 bits: dynamic, the last place, is a number above all others.
-- Assumes nothing.
use Rattle.std.specs.Prelude.{ℕ, ◌<◌, ◌≡◌, Bool}
use Rattle.definitions.specs.Usage.{Size, fixed, dynamic}
use Rattle.definitions.specs.Place.{past32}

abbrev pub above_all : ℕ
above_all = 281474976710656

abbrev pub number_of : Size → ℕ
number_of dynamic = above_all
number_of (fixed n) = n

abbrev pub Small : Size → Type 0
Small dynamic = Unit {0}
Small (fixed n) = n < above_all

-- e stands for the place z
pub record Denotes (e : ℕ) (z : Size) : Type 0 where
  pub is : e ≡ number_of z
  pub small : Small z

-- r says whether the place that e stands for is past 32 bits
pub record Past (e : ℕ) (r : Bool) : Type 0 where
  pub of : (z : Size) → Denotes e z → r ≡ past32 z
