-- What contains a range among the components that were read contains it in every table that stands there: the components are
-- those of the type's layout, and their types are earlier ones of the table.
-- Assumes nothing.
use Prim.Native.Nat.{ℕ, ◌<◌}
use mathlib.Core.Path.{◌≡◌, ap, sym, ◌∙◌}
use mathlib.Core.Bool.{true}
use mathlib.Core.List.{List}
use Rattle.std.specs.Prelude.{Option, Some, None}
use lib.ListN.{length, take}
use Rattle.definitions.specs.Table.{Table as Layouts, Setting, concrete, layout_of, admitted}
use Rattle.layout.specs.Values.{parts_of, layout_in, Formed, FormedParts}
use Rattle.qptr.specs.Choices.{choices_in}
use Rattle.layout.specs.Located.{AllLocated, InTable, LayoutIs}
use Rattle.layout.specs.Containing.{containing_from, Next, From, InElements, FieldType, FieldsInTable, InFields, Finds}
use Rattle.layout.specs.declared.table.Components.{Components}
use Rattle.layout.specs.declared.table.Components.TheVariants.{Elements, Fields}
use Rattle.layout.specs.declared.table.TypeLayout.{TypeLayout}
use Rattle.layout.specs.declared.table.TypeLayout.TheVariants.{Concrete}
use Rattle.layout.specs.declared.table.Array.{Array}
use Rattle.layout.specs.declared.containment.Component.{Component}
use Rattle.layout.specs.declared.table.FieldList.{FieldList}
use Rattle.layout.specs.declared.setting.Setting.{Setting as CodeSetting}
use Rattle.layout.specs.declared.table.Table.{Table}
use Rattle.layout.proofs.Parts.{first_in_lem, field_concrete}

-- The layout of a type was found to be v, with these components.

parts_formed : (s : List ℕ) {r : TypeLayout} {size d : ℕ} {cs v : Components} → Formed s r → r ≡ Concrete size d cs → cs ≡ v → FormedParts s v
parts_formed s f e e' = rw e' at (rw e at f)

from_known : {P Q : ℕ → Type 0} (r : Option Component) → ((c : ℕ) → P c → Q c) → From P r → From Q r
from_known (Some c) f p = f c.ty p
from_known None f p = tt

module _ {t : Table} {ty : ℕ} {r : TypeLayout} {size d : ℕ} {cs v : Components} (l : LayoutIs t ty r) (y : r ≡ Concrete size d cs) (y' : cs ≡ v) where
  layout_known : (ls : Layouts) → AllLocated t ls → ty < length ls → concrete size d (parts_of t.bytes.now v) ≡ layout_of ls ty
  layout_known ls p h =
      ap (λ (v : Components). concrete size d (parts_of t.bytes.now v)) (sym y') ∙ ap (layout_in t.bytes.now) (sym y) ∙ l.is ls (p ty h)

  parts_admitted : (ls : Layouts) → AllLocated t ls → ty < length ls → admitted (take ty ls) (concrete size d (parts_of t.bytes.now v)) ≡ true
  parts_admitted ls p h = rw (layout_known ls p h) (p ty h).admits

module _ {code : CodeSetting} {ty : ℕ} {r : TypeLayout} {size d : ℕ} {cs v : Components} (l : LayoutIs code.table ty r)
    (y : r ≡ Concrete size d cs) (y' : cs ≡ v) where
  finds : {from s e : ℕ} (a : Option Component) → From (λ c. c < ty) a →
      ((st : Setting) → AllLocated code.table st.table → choices_in code.choices ≡ st.choices → ty < length st.table → Next (containing_from st (parts_of code.table.bytes.now v) s e) from a) → Finds code ty from s e a
  finds {from} {s} {e} a below f = record {
    earlier = below;
    is = λ st p chosen h n d' cs' x.
        let z : concrete size d (parts_of code.table.bytes.now v) ≡ concrete n d' cs' = layout_known l y y' st.table p h ∙ x in
        let u : parts_of code.table.bytes.now v ≡ cs' = cc in
        rw u at (f st p chosen h);
  }

module _ {t : Table} {ty : ℕ} {r : TypeLayout} {size d : ℕ} {b : Array} {cs : Components} (w : InTable t ty) (l : LayoutIs t ty r)
    (y : r ≡ Concrete size d cs) (y' : cs ≡ Elements b) where
  element_in : (ls : Layouts) → AllLocated t ls → ty < length ls → (b.elem < ty) × (b.elem < length ls)
  element_in ls p h = first_in_lem ls ty b.elem (parts_admitted l y y' ls p h)

  pub some_stride : 0 < b.stride
  some_stride = parts_formed t.bytes.now l.formed y y'

  pub element_below : b.elem < ty
  element_below = (element_in w.layouts w.placed w.below).0

  pub element_type : InTable t b.elem
  element_type = record { layouts = w.layouts; placed = w.placed; below = (element_in w.layouts w.placed w.below).1 }

module _ {code : CodeSetting} {ty : ℕ} {r : TypeLayout} {size d : ℕ} {b : Array} {cs : Components} (w : InTable code.table ty)
    (l : LayoutIs code.table ty r) (y : r ≡ Concrete size d cs) (y' : cs ≡ Elements b) where
  pub finds_element : {from s e : ℕ} {a : Option Component} → from ≡ 0 → InElements code b s e a → Finds code ty from s e a
  finds_element {from} {s} {e} {a} z h =
      finds l y y' a (from_known a (λ c x. rw x (element_below w l y y')) h.type)
      λ st p chosen below. rw z (h.is st (p b.elem (element_in w l y y' st.table p below).1) chosen)

module _ {t : Table} {ty : ℕ} {r : TypeLayout} {size d : ℕ} {fs : FieldList} {cs : Components} (w : InTable t ty) (l : LayoutIs t ty r)
    (y : r ≡ Concrete size d cs) (y' : cs ≡ Fields fs) where
  field_in : (ls : Layouts) → AllLocated t ls → ty < length ls → {c : ℕ} → FieldType t.bytes.now fs c → (c < ty) × (c < length ls)
  field_in ls p h {c} f =
      first_in_lem ls ty c (rw f.is (field_concrete (take ty ls) t.bytes.now 0 fs.at fs.count (parts_admitted l y y' ls p h) f.index f.below))

  pub field_types : FieldsInTable t fs
  field_types = record {
    within = parts_formed t.bytes.now l.formed y y';
    types = λ c f. record { layouts = w.layouts; placed = w.placed; below = (field_in w.layouts w.placed w.below f).1 };
  }

module _ {code : CodeSetting} {ty : ℕ} {r : TypeLayout} {size d : ℕ} {fs : FieldList} {cs : Components} (w : InTable code.table ty)
    (l : LayoutIs code.table ty r) (y : r ≡ Concrete size d cs) (y' : cs ≡ Fields fs) where
  pub finds_field : {from s e : ℕ} {a : Option Component} → InFields code.table fs from s e a → Finds code ty from s e a
  finds_field {a = a} h =
      finds l y y' a (from_known a (λ c f. (field_in w l y y' w.layouts w.placed w.below f).0) h.type)
      λ st p chosen below. h.is st λ c f. p c (field_in w l y y' st.table p below f).1
