-- Which fields contain a range, one field at a time: those from i on are what is left of those from `from` on.
-- Assumes nothing.
use Prim.Native.Nat.{ℕ, ◌+◌, ◌*◌, ◌-◌, ◌≤◌, ◌<◌}
use native.Mathlib.Omega.{arith}
use mathlib.Core.Path.{◌≡◌}
use mathlib.Core.Bool.{Bool, true, false}
use mathlib.Core.List.{◌∷◌}
use Rattle.std.specs.Prelude.{Some}
use Rattle.definitions.specs.If.{when◌then◌else◌}
use Rattle.definitions.specs.Table.{Setting, fields}
use Rattle.definitions.specs.Containment.{in_fields}
use Rattle.numbers.specs.Words.{word}
use Rattle.layout.specs.Bytes.{fields_at}
use Rattle.layout.specs.Located.{Located}
use Rattle.layout.specs.Containing.{containing_from, Contains, FieldType, InFields}
use Rattle.layout.specs.declared.table.Field.{Field}
use Rattle.layout.specs.declared.table.FieldList.{FieldList}
use Rattle.layout.specs.declared.table.Table.{Table}
use Rattle.layout.proofs.Fields.{fields_from, fields_next}

-- The fields from i on

pub record Seeking (t : Table) (fs : FieldList) (from s e i : ℕ) : Type 0 where
  pub started : from ≤ i
  pub is : (st : Setting) → ((ty : ℕ) → FieldType t.bytes.now fs ty → Located t st.table ty) →
      containing_from st (fields (fields_at t.bytes.now fs.at fs.count)) s e from ≡ in_fields st (fields_at t.bytes.now (fs.at + i * 8) (fs.count - i)) s e

module _ {t : Table} {fs : FieldList} {from s e : ℕ} where
  pub from_here : Seeking t fs from s e from
  from_here = record { started = omega arith; is = λ st p. rw (fields_from t.bytes.now from fs.at fs.count) }

  module _ {i : ℕ} (h : Seeking t fs from s e i) where
    module _ (l : i < fs.count) {f : Field} {r : Bool}
        (at-o : f.offset ≡ word t.bytes.now (fs.at + i * 8)) (at-ty : f.ty ≡ word t.bytes.now (fs.at + i * 8 + 4)) (k : Contains t f s e r) where
      this : FieldType t.bytes.now fs f.ty
      this = record { index = i; below = l; is = at-ty }

      judged : (st : Setting) → ((ty : ℕ) → FieldType t.bytes.now fs ty → Located t st.table ty) →
          containing_from st (fields (fields_at t.bytes.now fs.at fs.count)) s e from ≡
          (when r then record { type = f.ty; rest = s - f.offset } ∷ in_fields st (fields_at t.bytes.now (fs.at + (i + 1) * 8) (fs.count - (i + 1))) s e
          else in_fields st (fields_at t.bytes.now (fs.at + (i + 1) * 8) (fs.count - (i + 1))) s e)
      judged st p = rw (h.is st p, fields_next t.bytes.now fs.at fs.count i l, ← at-o, ← at-ty, ← k.is st.table (p f.ty this))

      pub next_contains : r ≡ false → Seeking t fs from s e (i + 1)
      unfolding when◌then◌else◌
      next_contains y = record { started = omega (arith, h.started); is = λ st p. rw (judged st p, y) }

      pub this_contains : r ≡ true → InFields t fs from s e (Some (record { ty = f.ty; rest = s - f.offset; next = i + 1 }))
      unfolding when◌then◌else◌
      this_contains y = record {
        type = this;
        is = λ st p. (rw (judged st p, y, fields_from t.bytes.now (i + 1) fs.at fs.count), omega (arith, h.started));
      }
