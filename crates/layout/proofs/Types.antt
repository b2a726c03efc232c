-- What the record at a type's place says, is said of its layout in every table that stands there.
-- Assumes nothing.
use Prim.Native.Nat.{ℕ, ◌<◌}
use native.Mathlib.Omega.{arith}
use native.Mathlib.Decide.{dec_lt}
use mathlib.Core.Path.{◌≡◌, ap, sym, ◌∙◌}
use mathlib.Core.Bool.{Bool, true, false, not}
use lib.ListN.{length, get_or, get_or-eq_default}
use borrow.Author.Tests.{not-false}
use Rattle.definitions.specs.Table.{Table as Layouts, failed, layout_of, is_concrete}
use Rattle.layout.specs.Values.{Whole}
use Rattle.layout.specs.Located.{InTable, Prefix, Earlier}
use Rattle.layout.specs.declared.table.Table.{Table}

-- a type that is not among them is not concrete there
pub concrete_in : (ls : Layouts) (ty : ℕ) → is_concrete (layout_of ls ty) ≡ true → ty < length ls
concrete_in ls ty h =
    elim (dec_lt ty (length ls)) [
      | yes l ↦ l
      | no l ↦
          let d : layout_of ls ty ≡ failed = get_or-eq_default ls failed {n = ty} (omega arith) in
          let e : is_concrete (layout_of ls ty) ≡ false = ap is_concrete d in
          cc
    ]

module _ {t : Table} {ty : ℕ} where
  pub record_at : {at : ℕ} → at ≡ get_or t.starts.now ty 0 → InTable t ty → Whole t.bytes.now at
  record_at e w = let p = w.placed ty w.below in record { layout = layout_of w.layouts ty; rest = p.rest; stands = rw e p.stands }

  -- where the table has a place for each earlier record, a concrete type is one of them
  pub concrete_below : {b : Bool} {ls : Layouts} → Prefix t ls → Earlier t ty b → not b ≡ false → ty < length ls
  concrete_below {b} {ls} st e f = concrete_in ls ty (sym (e.is ls st) ∙ not-false b f)
