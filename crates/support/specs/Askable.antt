-- What a question of support is put to and put about: a type of the table that stands in the bytes, and a usage in linked records.
-- Assumes nothing.
use Rattle.std.specs.Prelude.{ℕ, ◌<◌, ◌≡◌, List, length}
use Rattle.definitions.specs.Table.{Setting, Components as Parts, concrete, layout_of}
use Rattle.layout.specs.Located.{Known, LayoutIs}
use Rattle.layout.specs.declared.table.Components.{Components}
use Rattle.layout.specs.declared.table.TypeLayout.TheVariants.{Concrete}
use Rattle.layout.specs.declared.setting.Setting.{Setting as CodeSetting}
use Rattle.support_cache.specs.Nodes.{UsageAt}

-- some setting is known, and the type is one of its table
pub record TypeKnown (code : CodeSetting) (ty : ℕ) : Type 0 where
  pub setting : Setting
  pub known : Known code setting
  pub below : ty < length setting.table

-- the type may be asked about the usage at record q
pub record Askable (code : CodeSetting) (ty : ℕ) (s : List ℕ) (q : ℕ) : Type 0 where
  pub type : TypeKnown code ty
  pub usage : UsageAt s q

-- its layout is concrete
pub record ConcreteType (code : CodeSetting) (ty : ℕ) : Type 0 where
  pub type : TypeKnown code ty
  pub size : ℕ
  pub stride : ℕ
  pub parts : Parts
  pub layout : layout_of type.setting.table ty ≡ concrete size stride parts

-- and so is that of a type that may be asked
pub record ConcreteAskable (code : CodeSetting) (ty : ℕ) (s : List ℕ) (q : ℕ) : Type 0 where
  pub asks : Askable code ty s q
  pub size : ℕ
  pub stride : ℕ
  pub parts : Parts
  pub layout : layout_of asks.type.setting.table ty ≡ concrete size stride parts

-- these are the components of the type's layout
pub record ComponentsOf (code : CodeSetting) (ty : ℕ) (cs : Components) : Type 0 where
  pub size : ℕ
  pub stride : ℕ
  pub is : LayoutIs code.table ty (Concrete size stride cs)
