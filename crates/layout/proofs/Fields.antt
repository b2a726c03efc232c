-- The fields that the definitions read at byte i are those that stand there: each is two numbers.
-- Assumes nothing.
use Prim.Native.Nat.{ℕ, zero, suc, ◌+◌, ◌*◌, ◌-◌, ◌≤◌, ◌<◌}
use native.Mathlib.Omega.{arith}
use mathlib.Core.Path.{◌≡◌}
use mathlib.Core.List.{List, ◌∷◌}
use lib.ListN.{length, drop}
use Rattle.definitions.specs.Stream.{Read, broken, read, ◌then◌}
use Rattle.definitions.specs.Table.{Field, read_fields}
use Rattle.numbers.specs.Words.{word}
use Rattle.numbers.proofs.Numbers.{number_at_lem, number_then}
use Rattle.layout.specs.Bytes.{fields_at}

pub fields_read : (s : List ℕ) (k i j : ℕ) → i + k * 8 ≡ j → j ≤ length s → read_fields k (drop i s) ≡ read (fields_at s i k) (drop j s)
fields_read s zero i j e h = let z : i ≡ j = omega arith in rw z
fields_read s (suc k) i j e h =
    rw (number_at_lem 4 s i (i + 4) (omega arith) (omega arith), number_at_lem 4 s (i + 4) (i + 8) (omega arith) (omega arith), fields_read s k (i + 8) j (omega arith) h)

-- as `number_then`, of all fields
pub fields_then : {B : Type 0} (P : Read B → Type 0) (s : List ℕ) (k i j : ℕ) (next : List Field → List ℕ → Read B) → i + k * 8 ≡ j → i ≤ length s →
    P broken → (j ≤ length s → P (next (fields_at s i k) (drop j s))) → P (read_fields k (drop i s) then next)
fields_then {B = B} P s zero i j next e l b f = let z : i ≡ j = omega arith in rw z (f (omega arith))
fields_then {B = B} P s (suc k) i j next e l b f =
    number_then (λ x. P (x then next)) 4 s i (i + 4) _ l b (omega arith) λ l₁.
    number_then (λ x. P (x then next)) 4 s (i + 4) (i + 8) _ l₁ b (omega arith) λ l₂.
    fields_then {B = List Field} (λ x. P (x then next)) s k (i + 8) j _ (omega arith) l₂ b f

-- the fields from i on, and the first of them

pub fields_from : (s : List ℕ) (i at count : ℕ) → drop i (fields_at s at count) ≡ fields_at s (at + i * 8) (count - i)
fields_from s zero at count =
    let a : at + 0 * 8 ≡ at = omega arith in
    let b : count - 0 ≡ count = omega arith in
    rw (a, b)
fields_from s (suc i) at zero = let b : 0 - suc i ≡ 0 = omega arith in rw b
fields_from s (suc i) at (suc count) =
    let a : at + suc i * 8 ≡ at + 8 + i * 8 = omega arith in
    let b : suc count - suc i ≡ count - i = omega arith in
    rw (a, b, fields_from s i (at + 8) count)

pub fields_next : (s : List ℕ) (at count i : ℕ) → i < count →
    fields_at s (at + i * 8) (count - i) ≡ record { offset = word s (at + i * 8); type = word s (at + i * 8 + 4) } ∷ fields_at s (at + (i + 1) * 8) (count - (i + 1))
fields_next s at count i l =
    let a : at + i * 8 + 8 ≡ at + (i + 1) * 8 = omega arith in
    let b : count - i ≡ suc (count - (i + 1)) = omega arith in
    rw (b, a)
