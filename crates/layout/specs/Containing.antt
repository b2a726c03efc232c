-- The components that contain a range, one after the other: what the code's answers say of the definitions' lists.
-- Assumes nothing.
use Rattle.std.specs.Prelude.{ℕ, zero, suc, ◌+◌, ◌*◌, ◌≤◌, ◌<◌, ◌≡◌, Bool, true, ◌&&◌, ◌||◌, List, [], ◌∷◌, leb, length, drop, Option, Some, None, IfSome}
use Rattle.std.proofs.Math.Option.{Option as Maybe, none as nothing, some}
use Rattle.definitions.specs.Table.{Table as Layouts, Setting, Components as Parts, scalar, elements, fields, concrete, layout_of, fixed_size, is_dynamic}
use Rattle.definitions.specs.Containment.{Inside, in_elements, in_fields}
use Rattle.qptr.specs.Choices.{choices_in}
use Rattle.numbers.specs.Words.{word}
use Rattle.layout.specs.Bytes.{fields_at}
use Rattle.layout.specs.Located.{Located, AllLocated, InTable}
use Rattle.layout.specs.declared.table.Array.{Array}
use Rattle.layout.specs.declared.containment.Component.{Component}
use Rattle.layout.specs.declared.setting.Setting.{Setting as CodeSetting}
use Rattle.layout.specs.declared.table.Field.{Field}
use Rattle.layout.specs.declared.table.FieldList.{FieldList}
use Rattle.layout.specs.declared.table.Table.{Table}

abbrev pub size_in : Option ℕ → Maybe ℕ
size_in (Some n) = some n
size_in None = nothing

-- The components that contain s up to e, from index i on. All elements are one component. At 0 this is `containing` (`from_start`).
abbrev pub containing_from : Setting → Parts → ℕ → ℕ → ℕ → List Inside
containing_from st scalar s e i = []
containing_from st (elements stride ty len) s e zero = in_elements st stride ty len s e
containing_from st (elements stride ty len) s e (suc i) = []
containing_from st (fields fs) s e i = in_fields st (drop i fs) s e

-- of such a list from index i on: it is empty, or this is its head, and its tail is the list from `next` on
abbrev pub Next : (ℕ → List Inside) → ℕ → Option Component → Type 0
Next from i (Some c) = (from i ≡ record { type = c.ty; rest = c.rest } ∷ from c.next) × (i < c.next)
Next from i None = from i ≡ []

-- if there is a component, P holds of its type
abbrev pub From : (ℕ → Type 0) → Option Component → Type 0
From P r = IfSome r (λ c. P c.ty)

-- The parts of a layout. What is said holds of every setting whose records stand in the code's table, and of elements with the code's choices.

pub record InElements (code : CodeSetting) (a : Array) (s e : ℕ) (r : Option Component) : Type 0 where
  pub type : From (λ c. c ≡ a.elem) r
  pub is : (st : Setting) → Located code.table st.table a.elem → choices_in code.choices ≡ st.choices → Next (containing_from st (elements a.stride a.elem a.len) s e) 0 r

-- a field contains the range
pub record Contains (t : Table) (f : Field) (s e : ℕ) (r : Bool) : Type 0 where
  pub starts : r ≡ true → f.offset ≤ s
  pub is : (ls : Layouts) → Located t ls f.ty →
      r ≡ (leb f.offset s && (is_dynamic (layout_of ls f.ty) || leb e (f.offset + fixed_size (layout_of ls f.ty))))

-- it is the type of one of the fields, in the bytes b
pub record FieldType (b : List ℕ) (fs : FieldList) (ty : ℕ) : Type 0 where
  pub index : ℕ
  pub below : index < fs.count
  pub is : ty ≡ word b (fs.at + index * 8 + 4)

pub record FieldsInTable (t : Table) (fs : FieldList) : Type 0 where
  pub within : fs.at + fs.count * 8 ≤ length t.bytes.now
  pub types : (ty : ℕ) → FieldType t.bytes.now fs ty → InTable t ty

pub record InFields (t : Table) (fs : FieldList) (from s e : ℕ) (r : Option Component) : Type 0 where
  pub type : From (FieldType t.bytes.now fs) r
  pub is : (st : Setting) → ((ty : ℕ) → FieldType t.bytes.now fs ty → Located t st.table ty) →
      Next (containing_from st (fields (fields_at t.bytes.now fs.at fs.count)) s e) from r

-- A whole layout. A component's type is an earlier one.

pub record Finds (code : CodeSetting) (ty from s e : ℕ) (r : Option Component) : Type 0 where
  pub earlier : From (λ c. c < ty) r
  pub is : (st : Setting) → AllLocated code.table st.table → choices_in code.choices ≡ st.choices → ty < length st.table →
      (n d : ℕ) (cs : Parts) → layout_of st.table ty ≡ concrete n d cs → Next (containing_from st cs s e) from r
