-- A usage's own part has its size, and its command tells a map and an array from the others.
-- Assumes nothing.
use Prim.Native.Nat.{ℕ}
use mathlib.Core.Path.{◌≡◌, refl}
use mathlib.Core.Bool.{true, false}
use native.Mathlib.Omega.{arith}
use Rattle.definitions.specs.Usage.{Size, Usage, unused, leaf, map, array, Entries, size}
use Rattle.definitions.specs.Command.{head_of}

pub head_size : (u : Usage) → (head_of u).size ≡ size u
head_size (unused z) = refl
head_size (leaf z k t) = refl
head_size (map z es) = refl
head_size (array z n e) = refl

pub record AMap (u : Usage) : Type 0 where
  pub size : Size
  pub entries : Entries
  pub same : u ≡ map size entries

pub is_map : (u : Usage) → (head_of u).command ≡ 0x03 → AMap u
is_map (unused z) e = absurd (omega arith)
is_map (leaf z true t) e = absurd (omega arith)
is_map (leaf z false t) e = absurd (omega arith)
is_map (map z es) e = record { size = z; entries = es; same = refl }
is_map (array z n x) e = absurd (omega arith)

pub record AnArray (u : Usage) : Type 0 where
  pub size : Size
  pub stride : ℕ
  pub element : Usage
  pub same : u ≡ array size stride element

pub is_array : (u : Usage) → (head_of u).command ≡ 0x04 → AnArray u
is_array (unused z) e = absurd (omega arith)
is_array (leaf z true t) e = absurd (omega arith)
is_array (leaf z false t) e = absurd (omega arith)
is_array (map z es) e = absurd (omega arith)
is_array (array z n x) e = record { size = z; stride = n; element = x; same = refl }
