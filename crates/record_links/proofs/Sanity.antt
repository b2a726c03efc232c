-- Standing is not vacuous: of a usage written out in bytes it holds by computation, each record's rank being its number.
-- Assumes nothing.
use Prim.Native.Nat.{ℕ, ◌≤◌, ◌<◌}
use mathlib.Core.Path.{◌≡◌, refl}
use mathlib.Core.Bool.{true, false}
use mathlib.Core.List.{List, ◌++◌}
use native.Mathlib.Omega.{arith}
use Rattle.definitions.specs.Usage.{Size, Usage, leaf, map, array, none, entry, fixed, dynamic}
use Rattle.definitions.specs.Stream.{bytes}
use Rattle.numbers.specs.Words.{number_at}
use Rattle.records.specs.Records.{command_in, size_in}
use Rattle.record_links.specs.Standing.{Root, Stands, walk, reached}

-- command, the size's flag, next, child, count, size, argument, offset and spare words
row : ℕ → ℕ → ℕ → ℕ → ℕ → ℕ → ℕ → ℕ → List ℕ
row c flag next child n z t o = bytes 2 c ++ bytes 2 flag ++ bytes 2 next ++ bytes 2 child ++ bytes 4 n ++ bytes 4 z ++ bytes 4 t ++ bytes 4 o ++ bytes 8 0

-- in a map of dynamic size: at offset 0 a leaf of type 7, and at offset 16 an array of stride 260 of leaves of type 9; the map's
-- finger is the second of them
pub worked : List ℕ
worked = row 0 0 0 0 0 0 0 0 ++ row 3 0 0 2 4 0 3 0 ++ row 1 1 3 0 1 4 7 0 ++ row 4 1 0 4 2 520 260 16 ++ row 2 1 0 0 1 260 9 0

unfoldable pub sample : Usage
sample = map dynamic (entry 0 (leaf (fixed 4) true 7) (entry 16 (array (fixed 520) 260 (leaf (fixed 260) false 9)) none))

root : (q hi k : ℕ) (z : Size) → 1 ≤ q → q < 5 → q < hi → command_in worked q ≡ k → size_in worked q ≡ z → Root worked q (λ i. i) q hi k z
unfolding row worked
root q hi k z some in_all below ek ez = record { some = some; inside = omega arith; low = omega arith; high = below; command = ek; size = ez }

pub stands : Stands sample worked 1 (λ i. i) 1 5
unfolding row worked sample Stands number_at walk reached
stands = (
  root 1 5 3 dynamic (omega arith) (omega arith) (omega arith) refl refl,
  record { index = 2; upto = omega arith; is = refl },
  (
    3,
    refl,
    (root 2 3 1 (fixed 4) (omega arith) (omega arith) (omega arith) refl refl, refl),
    (
      5,
      refl,
      (
        root 3 5 4 (fixed 520) (omega arith) (omega arith) (omega arith) refl refl,
        refl,
        (root 4 5 2 (fixed 260) (omega arith) (omega arith) (omega arith) refl refl, refl),
      ),
      (refl, omega arith),
    ),
  ),
)
