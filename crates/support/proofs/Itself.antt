-- A usage that no component supports is asked by its kind: a map's entries, an array's element, and a leaf not at all.
-- Assumes nothing.
use Prim.Native.Nat.{ℕ, ◌<◌}
use native.Mathlib.Omega.{arith}
use mathlib.Core.Path.{◌≡◌, refl, ap, sym, ◌∙◌}
use mathlib.Core.Bool.{Bool, false}
use mathlib.Core.Logic.{◌⊎◌, ⊎_elim}
use mathlib.Core.List.{List}
use lib.ListN.{length}
use Rattle.definitions.specs.Usage.{Size, Usage, array}
use Rattle.definitions.specs.Table.{Setting, Components as Parts, concrete, layout_of}
use Rattle.definitions.specs.Support.{elements_supported, itself, supports}
use Rattle.qptr.specs.Values.{command_of, kind_of}
use Rattle.qptr.specs.declared.Kind.{Kind}
use Rattle.qptr.specs.declared.Kind.TheVariants.{Unused, StrictlyTyped, DirectAccess, OffsetBase, DynOffsetBase}
use Rattle.records.specs.Records.{command_in}
use Rattle.record_links.specs.Standing.{Stands}
use Rattle.layout.specs.Located.{Known}
use Rattle.layout.specs.Values.{parts_of}
use Rattle.layout.specs.declared.table.Components.{Components}
use Rattle.layout.specs.declared.table.Components.TheVariants.{Scalar, Elements, Fields}
use Rattle.layout.specs.declared.table.Array.{Array}
use Rattle.layout.specs.declared.table.FieldList.{FieldList}
use Rattle.layout.specs.declared.setting.Setting.{Setting as CodeSetting}
use Rattle.layout.proofs.Finding.{some_stride, element_below}
use Rattle.support.specs.Askable.{Askable, ComponentsOf}
use Rattle.support.specs.Supported.{EntriesSupported, ElementsSupported, ItselfSupports}
use Rattle.support_cache.proofs.Roots.{by_kind, on_map, on_array, command_of_kind}
use Rattle.support.proofs.Types.{type_in, layout_is}

module _ {code : CodeSetting} {ty at : ℕ} {s : List ℕ} {q : ℕ} {k : Kind} (x : k ≡ kind_of (command_in s q)) where
  pub by_entries : {v : Bool} → k ≡ OffsetBase → EntriesSupported code ty at s q v → ItselfSupports code ty at s q v
  by_entries {v} h g = record {
    is = λ st known b n d cs l u r lo hi a.
        on_map (λ u. v ≡ itself st (supports st) ty cs at u) s q r lo hi (command_of_kind u s q r lo hi a x OffsetBase h) (λ z es a. g.is st known b n d cs l z es r lo hi a) u a;
  }

  pub not_by_leaf : (command_in s q ≡ 0 → ⊥) → (k ≡ Unused) ⊎ ((k ≡ StrictlyTyped) ⊎ (k ≡ DirectAccess)) → ItselfSupports code ty at s q false
  not_by_leaf used h = record {
    is = λ st known b n d cs l u r lo hi a.
        let is : (v : Kind) → k ≡ v → command_in s q ≡ command_of v = command_of_kind u s q r lo hi a x in
        let leaf : command_in s q < 3 = ⊎_elim (λ e. omega (arith, is Unused e)) (⊎_elim (λ e. omega (arith, is StrictlyTyped e)) (λ e. omega (arith, is DirectAccess e))) h in
        by_kind (λ u. false ≡ itself st (supports st) ty cs at u) s q r lo hi
        (λ z c a. absurd (used c)) (λ z t ty' c a. refl) (λ z es c a. absurd (omega arith)) (λ z m e c a. absurd (omega arith))
        u a;
  }

-- the components of the type's layout are v
module _ {code : CodeSetting} {ty : ℕ} {cs v : Components} (p : ComponentsOf code ty cs) (y : cs ≡ v) where
  parts_are : (st : Setting) → Known code st → ty < length st.table → (n d : ℕ) (w : Parts) → layout_of st.table ty ≡ concrete n d w → w ≡ parts_of code.table.bytes.now v
  parts_are st k b n d w l =
      let e : concrete p.size p.stride (parts_of code.table.bytes.now cs) ≡ concrete n d w = sym (layout_is p.is refl st k b) ∙ l in
      let f : parts_of code.table.bytes.now cs ≡ w = cc in
      sym f ∙ ap (parts_of code.table.bytes.now) y

  by_array : {at : ℕ} {s : List ℕ} {q : ℕ} {k : Kind} {r : Bool} → k ≡ kind_of (command_in s q) → k ≡ DynOffsetBase →
      ((st : Setting) → Known code st → ty < length st.table → (z : Size) (n : ℕ) (e : Usage) (rank : ℕ → ℕ) (lo hi : ℕ) → Stands (array z n e) s q rank lo hi →
      r ≡ elements_supported st (supports st) (parts_of code.table.bytes.now v) at z n e) →
      ItselfSupports code ty at s q r
  by_array {at} {s} {q} {r = r} x h f = record {
    is = λ st known b n d w l u rank lo hi a.
        rw (parts_are st known b n d w l)
        (on_array (λ u. r ≡ itself st (supports st) ty (parts_of code.table.bytes.now v) at u) s q rank lo hi (command_of_kind u s q rank lo hi a x DynOffsetBase h) (λ z m e a. f st known b z m e rank lo hi a) u a);
  }

module _ {code : CodeSetting} {ty : ℕ} {s : List ℕ} {q : ℕ} {cs : Components} (p : ComponentsOf code ty cs) where
  pub not_by_others : {at : ℕ} {k : Kind} → (cs ≡ Scalar) ⊎ ((fs : FieldList) × (cs ≡ Fields fs)) → k ≡ kind_of (command_in s q) → k ≡ DynOffsetBase → ItselfSupports code ty at s q false
  not_by_others y x h = ⊎_elim
      (λ scalar. by_array p scalar x h λ st known b z n e r lo hi a. refl)
      (λ fields. by_array p fields.1 x h λ st known b z n e r lo hi a. refl)
      y

  module _ {b : Array} (w : Askable code ty s q) (y : cs ≡ Elements b) where
    pub element_known : (b.elem < ty) × (0 < b.stride)
    element_known = (element_below (type_in w.type) p.is refl y, some_stride (type_in w.type) p.is refl y)

    pub by_elements : {at : ℕ} {k : Kind} {v : Bool} → k ≡ kind_of (command_in s q) → k ≡ DynOffsetBase → ElementsSupported code b at s q v → ItselfSupports code ty at s q v
    by_elements x h g = by_array p y x h λ st known l z n e r lo hi a. g.is st known (omega (arith, element_known.0)) z n e r lo hi a
