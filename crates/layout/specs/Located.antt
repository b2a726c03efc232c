-- Where the records of a layout table stand, what their types are, and what acceptance tells of the bytes.
-- Assumes nothing.
use Rattle.std.specs.Prelude.{ℕ, ◌≤◌, ◌<◌, ◌≡◌, Bool, true, List, length, get_or, take, drop, Option, Some, None}
use Rattle.std.proofs.Math.Option.{none as nothing, some}
use Rattle.definitions.specs.Limits.{record_limit}
use Rattle.definitions.specs.Stream.{read}
use Rattle.definitions.specs.Table.{Table as Layouts, Setting, TypeLayout as Layout, layout_of, is_concrete, read_layout, fields_admitted, admitted, table_of}
use Rattle.qptr.specs.Choices.{choices_in}
use Rattle.layout.specs.Bytes.{record_count, fields_at}
use Rattle.layout.specs.Values.{layout_in, Formed}
use Rattle.layout.specs.declared.table.FieldList.{FieldList}
use Rattle.layout.specs.declared.setting.Setting.{Setting as CodeSetting}
use Rattle.layout.specs.declared.table.Table.{Table}
use Rattle.layout.specs.declared.table.TypeLayout.{TypeLayout}

-- record ty of ls stands in the table t at the place that is kept for it, and the records before it admit it
pub record Located (t : Table) (ls : Layouts) (ty : ℕ) : Type 0 where
  pub kept : ty < length t.starts.now
  pub rest : List ℕ
  pub stands : read_layout (drop (get_or t.starts.now ty 0) t.bytes.now) ≡ read (layout_of ls ty) rest
  pub admits : admitted (take ty ls) (layout_of ls ty) ≡ true

abbrev pub AllLocated : Table → Layouts → Type 0
AllLocated t ls = (ty : ℕ) → ty < length ls → Located t ls ty

-- the setting that the code has: the table that its bytes are, whose records start there, and its choices
pub record Known (code : CodeSetting) (st : Setting) : Type 0 where
  pub read : table_of code.table.bytes.now ≡ some st.table
  pub placed : AllLocated code.table st.table
  pub chosen : choices_in code.choices ≡ st.choices

-- A type's layout. What is said holds of all records that stand in t.

-- there are such records, and the type is one of them
pub record InTable (t : Table) (ty : ℕ) : Type 0 where
  pub layouts : Layouts
  pub placed : AllLocated t layouts
  pub below : ty < length layouts

-- it is r
pub record LayoutIs (t : Table) (ty : ℕ) (r : TypeLayout) : Type 0 where
  pub formed : Formed t.bytes.now r
  pub is : (ls : Layouts) → Located t ls ty → layout_in t.bytes.now r ≡ layout_of ls ty

-- what f says of it is r
pub record Says {A : Type 0} (f : Layout → A) (t : Table) (ty : ℕ) (r : A) : Type 0 where
  pub is : (ls : Layouts) → Located t ls ty → r ≡ f (layout_of ls ty)

-- The rules among records, where t has a place for each of those so far.

-- they are ls
pub record Prefix (t : Table) (ls : Layouts) : Type 0 where
  pub count : length ls ≡ length t.starts.now
  pub placed : AllLocated t ls

pub record HasPrefix (t : Table) : Type 0 where
  pub layouts : Layouts
  pub stand : Prefix t layouts

-- it is concrete, and so one of them
pub record Earlier (t : Table) (ty : ℕ) (r : Bool) : Type 0 where
  pub is : (ls : Layouts) → Prefix t ls → r ≡ is_concrete (layout_of ls ty)

-- they admit these fields
pub record FieldsAdmitted (t : Table) (fs : FieldList) (r : Bool) : Type 0 where
  pub is : (ls : Layouts) → Prefix t ls → r ≡ fields_admitted ls 0 (fields_at t.bytes.now fs.at fs.count)

-- they admit the record at byte `at`
pub record Admitted (t : Table) (at : ℕ) (r : Bool) : Type 0 where
  pub is : (ls : Layouts) → Prefix t ls → (l : Layout) (rest : List ℕ) → read_layout (drop at t.bytes.now) ≡ read l rest → r ≡ admitted ls l

-- Acceptance. Of a table that is refused nothing is said of the starts.

-- there is a number for each record that s says it has, unless it says more than a table may have
abbrev pub Room : List ℕ → List ℕ → Type 0
Room s starts = record_count s ≤ record_limit → record_count s ≤ length starts

-- t has the bytes s, and the first n of these starts
pub record Holds (t : Table) (s starts : List ℕ) (n : ℕ) : Type 0 where
  pub bytes : t.bytes.now ≡ s
  pub first : take n t.starts.now ≡ take n starts

pub record Found (s starts : List ℕ) (n : ℕ) : Type 0 where
  pub layouts : Layouts
  pub is : table_of s ≡ some layouts
  pub count : length layouts ≡ n
  pub room : n ≤ length starts
  pub placed : (t : Table) → Holds t s starts n → AllLocated t layouts

pub record Accepted (s : List ℕ) (r : Option ℕ) (starts : List ℕ) : Type 0 where
  pub refused : r ≡ None → table_of s ≡ nothing
  pub found : (n : ℕ) → r ≡ Some n → Found s starts n
