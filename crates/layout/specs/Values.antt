-- What this crate's values stand for, over the bytes s of a table.
-- Assumes nothing.
use Rattle.std.specs.Prelude.{ℕ, ◌+◌, ◌*◌, ◌≤◌, ◌<◌, ◌≡◌, List, length, drop, Option, Some, None}
use Rattle.definitions.specs.Stream.{broken, read}
use Rattle.definitions.specs.Table.{Components as Parts, scalar, elements, fields, TypeLayout as Layout, concrete, handle, failed, read_layout}
use Rattle.layout.specs.Bytes.{fields_at}
use Rattle.layout.specs.declared.table.Components.{Components}
use Rattle.layout.specs.declared.table.Components.TheVariants.{Scalar, Elements, Fields}
use Rattle.layout.specs.declared.table.TypeLayout.{TypeLayout}
use Rattle.layout.specs.declared.table.TypeLayout.TheVariants.{Concrete, Handle, Failed}

abbrev pub parts_of : List ℕ → Components → Parts
parts_of s Scalar = scalar
parts_of s (Elements a) = elements a.stride a.elem a.len
parts_of s (Fields fs) = fields (fields_at s fs.at fs.count)

-- the layout that the code's answer stands for
abbrev pub layout_in : List ℕ → TypeLayout → Layout
layout_in s (Concrete size dyn parts) = concrete size dyn (parts_of s parts)
layout_in s Handle = handle
layout_in s Failed = failed

-- a stride is not 0, and fields lie within the table
abbrev pub FormedParts : List ℕ → Components → Type 0
FormedParts s Scalar = Unit {0}
FormedParts s (Elements a) = 0 < a.stride
FormedParts s (Fields fs) = fs.at + fs.count * 8 ≤ length s

abbrev pub Formed : List ℕ → TypeLayout → Type 0
Formed s (Concrete size dyn parts) = FormedParts s parts
Formed s Handle = Unit {0}
Formed s Failed = Unit {0}

-- a whole record stands at byte `at`
pub record Whole (s : List ℕ) (at : ℕ) : Type 0 where
  pub layout : Layout
  pub rest : List ℕ
  pub stands : read_layout (drop at s) ≡ read layout rest

-- that record says r
pub record Reads (s : List ℕ) (at : ℕ) (r : TypeLayout) : Type 0 where
  pub formed : Formed s r
  pub is : (l : Layout) (rest : List ℕ) → read_layout (drop at s) ≡ read l rest → layout_in s r ≡ l

-- a whole record stands from byte `at` to byte `end`; the longest has 64 fields
pub record Ended (s : List ℕ) (at end : ℕ) : Type 0 where
  pub layout : Layout
  pub stands : read_layout (drop at s) ≡ read layout (drop end s)
  pub near : end ≤ at + 523
  pub within : end ≤ length s

-- so it does up to the end that is told; with none, no record stands there
abbrev pub Ends : List ℕ → ℕ → Option ℕ → Type 0
Ends s at (Some end) = Ended s at end
Ends s at None = read_layout (drop at s) ≡ broken
