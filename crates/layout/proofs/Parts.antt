-- The components of an admitted record are among the records before it: it is concrete there, and what is not there is not.
-- Assumes nothing.
use Prim.Native.Nat.{ℕ, zero, suc, ◌+◌, ◌*◌, ◌<◌}
use native.Mathlib.Omega.{arith}
use mathlib.Core.Path.{◌≡◌}
use mathlib.Core.Bool.{true, ◌&&◌, ◌||◌, not}
use mathlib.Core.List.{List, ◌∷◌}
use lib.Dec.{leb}
use lib.ListN.{length, take, length-take}
use Rattle.std.proofs.lemmas.Bool.{and_parts}
use Rattle.definitions.specs.Limits.{max32}
use Rattle.definitions.specs.Table.{Table as Layouts, Field, layout_of, is_concrete, fixed_size, is_dynamic, is_empty, fields_admitted}
use Rattle.numbers.specs.Words.{word}
use Rattle.layout.specs.Bytes.{fields_at}
use Rattle.layout.proofs.Types.{concrete_in}

-- a concrete one of the first ty
pub first_in_lem : (ls : Layouts) (ty c : ℕ) → is_concrete (layout_of (take ty ls) c) ≡ true → (c < ty) × (c < length ls)
first_in_lem ls ty c h =
    let l = concrete_in (take ty ls) c h in
    let n = length-take ty ls in
    (omega arith, omega arith)

field_admitted : (ls : Layouts) (p : ℕ) (f : Field) (fs : List Field) → fields_admitted ls p (f ∷ fs) ≡ true →
    (is_concrete (layout_of ls f.type) ≡ true) × (fields_admitted ls (f.offset + fixed_size (layout_of ls f.type)) fs ≡ true)
field_admitted ls p f fs h =
    let l = layout_of ls f.type in
    let end = f.offset + fixed_size l in
    let alone = not (is_dynamic l) || is_empty fs in
    let others = fields_admitted ls end fs in
    let a = and_parts (is_concrete l) (leb p f.offset && (leb end max32 && (alone && others))) h in
    let b = and_parts (leb p f.offset) (leb end max32 && (alone && others)) a.1 in
    let c = and_parts (leb end max32) (alone && others) b.1 in
    (a.0, (and_parts alone others c.1).1)

pub field_concrete : (ls : Layouts) (b : List ℕ) (p at count : ℕ) → fields_admitted ls p (fields_at b at count) ≡ true →
    (k : ℕ) → k < count → is_concrete (layout_of ls (word b (at + k * 8 + 4))) ≡ true
field_concrete ls b p at zero h k l = absurd (omega arith)
field_concrete ls b p at (suc count) h zero l =
    let z : at + 0 * 8 + 4 ≡ at + 4 = omega arith in
    rw z (field_admitted ls p (record { offset = word b at; type = word b (at + 4) }) (fields_at b (at + 8) count) h).0
field_concrete ls b p at (suc count) h (suc k) l =
    let z : at + suc k * 8 + 4 ≡ at + 8 + k * 8 + 4 = omega arith in
    let end = word b at + fixed_size (layout_of ls (word b (at + 4))) in
    let rest = (field_admitted ls p (record { offset = word b at; type = word b (at + 4) }) (fields_at b (at + 8) count) h).1 in
    rw z (field_concrete ls b end (at + 8) count rest k (omega arith))
