-- The derived orders of sizes and of strictness are those of the definitions.
-- Assumes nothing.
use Prim.Native.Nat.{ℕ}
use mathlib.Core.Path.{◌≡◌, refl}
use mathlib.Core.Bool.{not}
use native.Mathlib.Omega.{arith}
use lib.Dec.{ltb, leb}
use Rattle.std.proofs.lemmas.Bool.Decides.{nat_tests}
use Rattle.std.specs.Ordering.{partial_lt, partial_le, is_lt, is_le, nat_cmp}
use Rattle.definitions.specs.Place.{◌<ˢ◌, ◌≤ˢ◌}
use Rattle.definitions.specs.Sound.{is_fixed}
use Rattle.qptr.specs.declared.MaxSize.{MaxSize}
use Rattle.qptr.specs.declared.MaxSize.TheVariants.{Fixed, Dynamic}
use Rattle.qptr.specs.declared.Strictness.{Strictness}
use Rattle.qptr.specs.declared.Strictness.TheVariants.{Any, Array, Exact}
use Rattle.qptr.specs.contracts.MaxSizePartialEq.TheImpl.{eq-value as size_eq}
use Rattle.qptr.specs.contracts.MaxSizePartialOrd.TheImpl.{partial_cmp-value as size_cmp}
use Rattle.qptr.specs.contracts.StrictnessPartialOrd.TheImpl.{partial_cmp-value as strictness_cmp}
use Rattle.qptr.specs.Values.{size_of, strictness_of}

less_number : (m n : ℕ) → is_lt (nat_cmp m n) ≡ not (leb n m)
less_number m n = grind (arith, nat_tests)

upto_number : (m n : ℕ) → is_le (nat_cmp m n) ≡ leb m n
upto_number m n = grind (arith, nat_tests)

pub less_size : (m n : MaxSize) → partial_lt size_cmp.it m n ≡ (size_of m <ˢ size_of n)
less_size Dynamic Dynamic = refl
less_size Dynamic (Fixed n) = refl
less_size (Fixed m) Dynamic = refl
less_size (Fixed m) (Fixed n) = less_number m n

pub upto_size : (m n : MaxSize) → partial_le size_cmp.it m n ≡ (size_of m ≤ˢ size_of n)
upto_size Dynamic Dynamic = refl
upto_size Dynamic (Fixed n) = refl
upto_size (Fixed m) Dynamic = refl
upto_size (Fixed m) (Fixed n) = upto_number m n

pub same_size : (m : MaxSize) (n : ℕ) → size_eq.it m (Fixed n) ≡ is_fixed n (size_of m)
same_size Dynamic n = refl
same_size (Fixed m) n = refl

pub less_strict : (m n : Strictness) → partial_lt strictness_cmp.it m n ≡ ltb (strictness_of m) (strictness_of n)
less_strict Any Any = refl
less_strict Any Array = refl
less_strict Any Exact = refl
less_strict Array Any = refl
less_strict Array Array = refl
less_strict Array Exact = refl
less_strict Exact Any = refl
less_strict Exact Array = refl
less_strict Exact Exact = refl

pub upto_strict : (m n : Strictness) → partial_le strictness_cmp.it m n ≡ leb (strictness_of m) (strictness_of n)
upto_strict Any Any = refl
upto_strict Any Array = refl
upto_strict Any Exact = refl
upto_strict Array Any = refl
upto_strict Array Array = refl
upto_strict Array Exact = refl
upto_strict Exact Any = refl
upto_strict Exact Array = refl
upto_strict Exact Exact = refl
