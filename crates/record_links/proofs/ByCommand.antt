-- A usage's own command tells its kind: no two kinds share one.
-- Assumes nothing.
use Prim.Native.Nat.{ℕ}
use mathlib.Core.Bool.{true, false}
use mathlib.Core.Path.{◌≡◌}
use native.Mathlib.Omega.{arith}
use Rattle.definitions.specs.Usage.{Size, Usage, unused, leaf, map, array, Entries}
use Rattle.definitions.specs.Command.{head_of}

pub data IsUnused : Usage → Type 0 where
  is_unused_lem : (z : Size) → IsUnused (unused z)

pub data IsMap : Usage → Type 0 where
  is_map : (z : Size) (es : Entries) → IsMap (map z es)

pub data IsArray : Usage → Type 0 where
  is_array : (z : Size) (n : ℕ) (e : Usage) → IsArray (array z n e)

pub unused_of : (u : Usage) → (head_of u).command ≡ 0 → IsUnused u
unused_of (unused z) e = is_unused_lem z
unused_of (leaf z true t) e = absurd (omega arith)
unused_of (leaf z false t) e = absurd (omega arith)
unused_of (map z es) e = absurd (omega arith)
unused_of (array z n v) e = absurd (omega arith)

pub map_of : (u : Usage) → (head_of u).command ≡ 3 → IsMap u
map_of (unused z) e = absurd (omega arith)
map_of (leaf z true t) e = absurd (omega arith)
map_of (leaf z false t) e = absurd (omega arith)
map_of (map z es) e = is_map z es
map_of (array z n v) e = absurd (omega arith)

pub array_of : (u : Usage) → (head_of u).command ≡ 4 → IsArray u
array_of (unused z) e = absurd (omega arith)
array_of (leaf z true t) e = absurd (omega arith)
array_of (leaf z false t) e = absurd (omega arith)
array_of (map z es) e = absurd (omega arith)
array_of (array z n v) e = is_array z n v
