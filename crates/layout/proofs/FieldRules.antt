-- The rules of fields, one field at a time: what is left to be said of all fields is what is to be said of those from i on.
-- Assumes nothing.
use Prim.Native.Nat.{ℕ, suc, ◌+◌, ◌*◌, ◌-◌, ◌≤◌, ◌<◌}
use native.Mathlib.Omega.{arith}
use native.Mathlib.Decide.{ℕ_discrete}
use mathlib.Core.Path.{◌≡◌, ap, ◌∙◌}
use mathlib.Core.Bool.{Bool, true, false, ◌&&◌, ◌||◌, not}
use mathlib.Core.List.{List, ◌∷◌}
use lib.Dec.{leb, eqb}
use borrow.Author.Tests.{le-leb, lt-leb, eq-eqb, ne_eqb, not-true, not-false}
use Rattle.definitions.specs.Limits.{max32}
use Rattle.definitions.specs.Table.{Table as Layouts, Field, layout_of, is_concrete, fixed_size, is_dynamic, is_empty, fields_admitted}
use Rattle.numbers.specs.Words.{word}
use Rattle.layout.specs.Bytes.{fields_at}
use Rattle.layout.specs.Located.{Located, Says, Prefix, Earlier, FieldsAdmitted}
use Rattle.layout.specs.declared.table.FieldList.{FieldList}
use Rattle.layout.specs.declared.table.Table.{Table}
use Rattle.layout.proofs.Fields.{fields_next}
use Rattle.layout.proofs.Types.{concrete_below}

-- the fields before i are admitted, and the last of them ends at `end`
pub record Remaining (t : Table) (fs : FieldList) (end i : ℕ) : Type 0 where
  pub within : i ≤ fs.count
  pub is : (ls : Layouts) → Prefix t ls →
      fields_admitted ls 0 (fields_at t.bytes.now fs.at fs.count) ≡ fields_admitted ls end (fields_at t.bytes.now (fs.at + i * 8) (fs.count - i))

module _ {t : Table} {fs : FieldList} where
  module _ {end i : ℕ} (h : Remaining t fs end i) (l : i < fs.count) (o ty : ℕ)
      (at-o : o ≡ word t.bytes.now (fs.at + i * 8)) (at-ty : ty ≡ word t.bytes.now (fs.at + i * 8 + 4)) where
    abbrev others : List Field
    others = fields_at t.bytes.now (fs.at + (i + 1) * 8) (fs.count - (i + 1))

    split : fields_at t.bytes.now (fs.at + i * 8) (fs.count - i) ≡ record { offset = o; type = ty } ∷ others
    split = rw (at-o, at-ty) (fields_next t.bytes.now fs.at fs.count i l)

    chain : (ls : Layouts) → Prefix t ls → fields_admitted ls 0 (fields_at t.bytes.now fs.at fs.count) ≡
        (let end' = o + fixed_size (layout_of ls ty) in
        is_concrete (layout_of ls ty) && (leb end o && (leb end' max32 && ((not (is_dynamic (layout_of ls ty)) || is_empty others) && fields_admitted ls end' others))))
    chain ls st = h.is ls st ∙ ap (fields_admitted ls end) split

    -- nothing comes behind it just if it is the last
    alone : (ls : Layouts) (p : ℕ) → eqb (i + 1) fs.count ≡ (is_empty others && fields_admitted ls p others)
    alone ls p =
        elim (ℕ_discrete (i + 1) fs.count) [
          | yes e ↦ let z : fs.count - (i + 1) ≡ 0 = omega arith in rw (z, eq-eqb (i + 1) fs.count e)
          | no e ↦ let z : fs.count - (i + 1) ≡ suc (fs.count - (i + 2)) = omega arith in rw (z, ne_eqb (i + 1) fs.count e)
        ]

    pub no_component : {b : Bool} → Earlier t ty b → not b ≡ true → FieldsAdmitted t fs false
    no_component {b} e f = record { is = λ ls st. rw (chain ls st, ← e.is ls st, not-true b f) }

    module _ {b : Bool} (e : Earlier t ty b) (f : not b ≡ false) where
      pub too_early : o < end → FieldsAdmitted t fs false
      too_early g = record { is = λ ls st. rw (chain ls st, ← e.is ls st, not-false b f, lt-leb end o g) }

      -- the type is one of the table's
      placed : {ls : Layouts} → Prefix t ls → Located t ls ty
      placed st = st.placed ty (concrete_below st e f)

      module _ {size : ℕ} (g : end ≤ o) (z : Says fixed_size t ty size) where
        pub past_32_bits : (o + size < 4294967296 → ⊥) → FieldsAdmitted t fs false
        past_32_bits k = record {
          is = λ ls st. rw (chain ls st, ← e.is ls st, not-false b f, le-leb end o g, ← z.is ls (placed st), lt-leb (o + size) max32 (omega arith));
        }

        module _ {d : Bool} (k : o + size < 4294967296) (v : Says is_dynamic t ty d) where
          -- the field keeps the rules, and what is left to be said depends on its type
          kept : (ls : Layouts) → Prefix t ls → fields_admitted ls 0 (fields_at t.bytes.now fs.at fs.count) ≡ ((not d || is_empty others) && fields_admitted ls (o + size) others)
          kept ls st = rw (chain ls st, ← e.is ls st, not-false b f, le-leb end o g, ← z.is ls (placed st), le-leb (o + size) max32 (omega arith), ← v.is ls (placed st))

          pub last_field : d ≡ true → FieldsAdmitted t fs (eqb (i + 1) fs.count)
          last_field y = record { is = λ ls st. rw (kept ls st, y) (alone ls (o + size)) }

          pub next_field : {next : ℕ} → next ≡ o + size → d ≡ false → Remaining t fs next (i + 1)
          next_field u y = record { within = omega arith; is = λ ls st. rw (u, kept ls st, y) }
