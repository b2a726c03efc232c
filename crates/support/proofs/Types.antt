-- Components are earlier types of the table that is known, so that support in it is one step of its own rules.
-- Assumes nothing.
use Prim.Native.Nat.{ℕ, ◌<◌}
use native.Mathlib.Omega.{arith}
use mathlib.Core.Path.{◌≡◌, refl, ap, sym, ◌∙◌}
use mathlib.Core.List.{List}
use lib.ListN.{length}
use Rattle.definitions.specs.Usage.{Usage}
use Rattle.definitions.specs.Table.{Setting, layout_of}
use Rattle.definitions.specs.Support.{support_rules, supports}
use Rattle.definitions.proofs.Earlier.{accepted}
use Rattle.definitions.proofs.Support.{supports_is}
use Rattle.layout.specs.Values.{parts_of, layout_in}
use Rattle.layout.specs.Located.{Known, InTable, LayoutIs}
use Rattle.layout.specs.declared.table.Components.{Components}
use Rattle.layout.specs.declared.table.TypeLayout.{TypeLayout}
use Rattle.layout.specs.declared.table.TypeLayout.TheVariants.{Concrete}
use Rattle.layout.specs.declared.setting.Setting.{Setting as CodeSetting}
use Rattle.support.specs.Askable.{TypeKnown, Askable, ConcreteAskable, ComponentsOf}

module _ {code : CodeSetting} where
  pub type_in : {ty : ℕ} → TypeKnown code ty → InTable code.table ty
  type_in w = record { layouts = w.setting.table; placed = w.known.placed; below = w.below }

  pub one_step : (st : Setting) → Known code st → (ty at : ℕ) (u : Usage) →
      supports st ty at u ≡ support_rules st (supports st) ty (layout_of st.table ty) at u
  one_step st k = supports_is st (accepted code.table.bytes.now st.table k.read).earlier

  pub layout_is : {ty : ℕ} {r v : TypeLayout} → LayoutIs code.table ty r → r ≡ v →
      (st : Setting) → Known code st → ty < length st.table → layout_of st.table ty ≡ layout_in code.table.bytes.now v
  layout_is {ty} l y st k b = sym (l.is st.table (k.placed ty b)) ∙ ap (layout_in code.table.bytes.now) y

  pub components_of : {ty n d : ℕ} {r : TypeLayout} {cs : Components} → LayoutIs code.table ty r → r ≡ Concrete n d cs → ComponentsOf code ty cs
  components_of {n = n} {d = d} l y = record { size = n; stride = d; is = rw y at l }

  module _ {s : List ℕ} {q ty : ℕ} where
    pub asks_earlier : {c : ℕ} → Askable code ty s q → c < ty → Askable code c s q
    asks_earlier w l = record {
      type = record { setting = w.type.setting; known = w.type.known; below = omega (arith, w.type.below) };
      usage = w.usage;
    }

    pub asks_concrete : {cs : Components} → Askable code ty s q → ComponentsOf code ty cs → ConcreteAskable code ty s q
    asks_concrete {cs} w p = record {
      asks = w;
      size = p.size;
      stride = p.stride;
      parts = parts_of code.table.bytes.now cs;
      layout = layout_is p.is refl w.type.setting w.type.known w.type.below;
    }
