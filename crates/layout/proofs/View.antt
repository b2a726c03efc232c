-- Whatever the definitions' `read_layout` finds at byte p, its kind and its length are those of the bytes there: each test of
-- the definition, and each number, is taken apart in its order.
-- Assumes nothing.
use Prim.Native.Nat.{ℕ, suc, ◌+◌, ◌*◌, ◌≤◌, ◌<◌}
use native.Mathlib.Omega.{arith}
use native.Mathlib.Decide.{dec_lt}
use mathlib.Core.Path.{◌≡◌, refl}
use mathlib.Core.List.{List}
use lib.Dec.{eqb, ltb}
use lib.ListN.{length, get_or, drop, drop_of_length-le}
use lib.Seq.{drop-cons}
use borrow.Author.Tests.{eqb-true, eqb-false, ltb-false}
use Rattle.definitions.proofs.Choice.{decide}
use Rattle.definitions.specs.Stream.{Read, broken, read, ◌then◌}
use Rattle.definitions.specs.Table.{Components, scalar, elements, fields, TypeLayout, concrete, handle, failed, read_components, read_layout}
use Rattle.numbers.specs.Words.{number_at, word}
use Rattle.numbers.proofs.Numbers.{number_then}
use Rattle.layout.specs.Bytes.{fields_at}
use Rattle.layout.proofs.Fields.{fields_then}

-- a record of each kind, with what makes it whole
pub data View (s : List ℕ) (p : ℕ) : Read TypeLayout → Type 0 where
  no_record : View s p broken
  is_handle : p + 1 ≤ length s → get_or s p 0 ≡ 0x23 → View s p (read handle (drop (p + 1) s))
  is_failed : p + 1 ≤ length s → get_or s p 0 ≡ 0x24 → View s p (read failed (drop (p + 1) s))
  is_scalar : p + 9 ≤ length s → get_or s p 0 ≡ 0x20 → View s p (read (concrete (word s (p + 1)) (word s (p + 5)) scalar) (drop (p + 9) s))
  is_elements : p + 21 ≤ length s → get_or s p 0 ≡ 0x21 → 0 < word s (p + 9) →
      View s p (read (concrete (word s (p + 1)) (word s (p + 5)) (elements (word s (p + 9)) (word s (p + 13)) (word s (p + 17)))) (drop (p + 21) s))
  is_fields : p + (11 + number_at 2 s (p + 9) * 8) ≤ length s → get_or s p 0 ≡ 0x22 → number_at 2 s (p + 9) ≤ 64 →
      View s p (read (concrete (word s (p + 1)) (word s (p + 5)) (fields (fields_at s (p + 11) (number_at 2 s (p + 9))))) (drop (p + (11 + number_at 2 s (p + 9) * 8)) s))

module _ (s : List ℕ) (p : ℕ) where
  -- behind its kind, its size and its dynamic stride a record has its components
  abbrev Behind : Read Components → Type 0
  Behind x = View s p (x then λ cs rest. read (concrete (word s (p + 1)) (word s (p + 5)) cs) rest)

  components_view : p + 9 ≤ length s → Behind (read_components (get_or s p 0) (drop (p + 9) s))
  components_view l =
      let c = get_or s p 0 in
      decide Behind (eqb c 0x20) (λ e. is_scalar l (eqb-true c 0x20 e)) λ n₀.
      decide Behind (eqb c 0x21)
      (λ e.
      number_then Behind 4 s (p + 9) (p + 13) _ l no_record (omega arith) λ l₁.
      number_then Behind 4 s (p + 13) (p + 17) _ l₁ no_record (omega arith) λ l₂.
      number_then Behind 4 s (p + 17) (p + 21) _ l₂ no_record (omega arith) λ l₃.
      decide Behind (eqb (word s (p + 9)) 0) (λ z. no_record) λ nz.
      let w : word s (p + 9) ≡ 0 → ⊥ = eqb-false (word s (p + 9)) 0 nz in
      is_elements l₃ (eqb-true c 0x21 e) (omega arith)) λ n₁.
      decide Behind (eqb c 0x22)
      (λ e.
      number_then Behind 2 s (p + 9) (p + 11) _ l no_record (omega arith) λ l₁.
      decide Behind (ltb 64 (number_at 2 s (p + 9))) (λ m. no_record) λ f.
      fields_then Behind s (number_at 2 s (p + 9)) (p + 11) (p + (11 + number_at 2 s (p + 9) * 8)) _ (omega arith) l₁ no_record λ l₂.
      is_fields l₂ (eqb-true c 0x22 e) (ltb-false 64 (number_at 2 s (p + 9)) f))
      λ n₂. no_record

  pub view : View s p (read_layout (drop p s))
  view =
      elim (dec_lt p (length s)) [
        | no v ↦ rw (drop_of_length-le s {i = p} (omega arith)) no_record
        | yes v ↦
            let z : p + 1 ≡ suc p = omega arith in
            let c = get_or s p 0 in
            rw (drop-cons s p 0 v, ← z)
            (decide (View s p) (eqb c 0x23) (λ e. is_handle (omega arith) (eqb-true c 0x23 e)) λ n₃.
            decide (View s p) (eqb c 0x24) (λ e. is_failed (omega arith) (eqb-true c 0x24 e)) λ n₄.
            number_then (View s p) 4 s (p + 1) (p + 5) _ (omega arith) no_record (omega arith) λ l₁.
            number_then (View s p) 4 s (p + 5) (p + 9) _ l₁ no_record (omega arith) λ l₂.
            components_view l₂)
      ]

  -- Each kind of record, as the premise of what a reading finds: nothing, if none of them stands here; and else what holds of each.

  pub refused :
      (p + 1 ≤ length s → get_or s p 0 ≡ 0x23 → ⊥) →
      (p + 1 ≤ length s → get_or s p 0 ≡ 0x24 → ⊥) →
      (p + 9 ≤ length s → get_or s p 0 ≡ 0x20 → ⊥) →
      (p + 21 ≤ length s → get_or s p 0 ≡ 0x21 → 0 < word s (p + 9) → ⊥) →
      (p + (11 + number_at 2 s (p + 9) * 8) ≤ length s → get_or s p 0 ≡ 0x22 → number_at 2 s (p + 9) ≤ 64 → ⊥) →
      read_layout (drop p s) ≡ broken
  refused h f c e fs = go view
    where
      go : {x : Read TypeLayout} → View s p x → x ≡ broken
      go no_record = refl
      go (is_handle l k) = absurd (h l k)
      go (is_failed l k) = absurd (f l k)
      go (is_scalar l k) = absurd (c l k)
      go (is_elements l k w) = absurd (e l k w)
      go (is_fields l k w) = absurd (fs l k w)

  pub each_kind : (Q : TypeLayout → Type 0) →
      (p + 1 ≤ length s → get_or s p 0 ≡ 0x23 → Q handle) →
      (p + 1 ≤ length s → get_or s p 0 ≡ 0x24 → Q failed) →
      (p + 9 ≤ length s → get_or s p 0 ≡ 0x20 → Q (concrete (word s (p + 1)) (word s (p + 5)) scalar)) →
      (p + 21 ≤ length s → get_or s p 0 ≡ 0x21 → 0 < word s (p + 9) →
      Q (concrete (word s (p + 1)) (word s (p + 5)) (elements (word s (p + 9)) (word s (p + 13)) (word s (p + 17))))) →
      (p + (11 + number_at 2 s (p + 9) * 8) ≤ length s → get_or s p 0 ≡ 0x22 → number_at 2 s (p + 9) ≤ 64 →
      Q (concrete (word s (p + 1)) (word s (p + 5)) (fields (fields_at s (p + 11) (number_at 2 s (p + 9)))))) →
      (l : TypeLayout) (rest : List ℕ) → read_layout (drop p s) ≡ read l rest → Q l
  each_kind Q h f c e fs l rest is = go (rw is at view)
    where
      go : {l : TypeLayout} {rest : List ℕ} → View s p (read l rest) → Q l
      go (is_handle l k) = h l k
      go (is_failed l k) = f l k
      go (is_scalar l k) = c l k
      go (is_elements l k w) = e l k w
      go (is_fields l k w) = fs l k w
