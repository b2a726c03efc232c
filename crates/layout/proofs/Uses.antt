-- What callers of this crate cite: an accepted table has its types, a component found has an earlier one, and all components
-- are those from index 0 on.
-- Assumes nothing.
use Prim.Native.Nat.{ℕ, ◌<◌}
use native.Mathlib.Omega.{arith}
use mathlib.Core.Path.{◌≡◌, refl}
use mathlib.Core.List.{List}
use Rattle.std.specs.Prelude.{Option, Some}
use Rattle.definitions.specs.Table.{Setting, Components, scalar, elements, fields}
use Rattle.definitions.specs.Containment.{containing}
use Rattle.layout.specs.Located.{Known, InTable, Holds, Found}
use Rattle.layout.specs.Containing.{containing_from, Finds}
use Rattle.layout.specs.declared.containment.Component.{Component}
use Rattle.layout.specs.declared.setting.Setting.{Setting as CodeSetting}
use Rattle.layout.specs.declared.table.Table.{Table}
use Rattle.qptr.specs.Choices.{choices_in}

-- The table that was accepted, over its starts

module _ {t : Table} {s starts : List ℕ} {n : ℕ} where
  pub holds_whole : t.bytes.now ≡ s → t.starts.now ≡ starts → Holds t s starts n
  holds_whole e f = record { bytes = e; first = rw f }

  pub table_type : (ty : ℕ) → Found s starts n → Holds t s starts n → ty < n → InTable t ty
  table_type ty f h l = record { layouts = f.layouts; placed = f.placed t h; below = omega (arith, f.count) }

-- with the code's choices, that is its setting
pub known : {code : CodeSetting} {s starts : List ℕ} {n : ℕ} → (f : Found s starts n) → Holds code.table s starts n
    → Known code (record { table = f.layouts; choices = choices_in code.choices })
known {code} f h = record { read = rw h.bytes f.is; placed = f.placed code.table h; chosen = refl }

module _ {code : CodeSetting} {ty from s e : ℕ} {r : Option Component} {c : Component} (f : Finds code ty from s e r) (y : r ≡ Some c) where
  -- so that asking a component ends
  pub component_below : c.ty < ty
  component_below = rw y at f.earlier

pub from_start : (st : Setting) (cs : Components) (s e : ℕ) → containing st cs s e ≡ containing_from st cs s e 0
from_start st scalar s e = refl
from_start st (elements stride ty len) s e = refl
from_start st (fields fs) s e = refl
