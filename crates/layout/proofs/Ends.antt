-- The definitions' `read_layout` reads a record of each kind, where its bytes are there, and else it reads none: the kind decides
-- each test.
-- Assumes nothing.
use Prim.Native.Nat.{ℕ, suc, ◌+◌, ◌*◌, ◌≤◌, ◌<◌}
use native.Mathlib.Omega.{arith}
use native.Mathlib.Decide.{ℕ_discrete}
use mathlib.Core.Path.{◌≡◌}
use mathlib.Core.List.{List, ◌∷◌}
use lib.ListN.{length, get_or, drop}
use lib.Seq.{drop-cons}
use borrow.Author.Tests.{ne_eqb, le-ltb}
use Rattle.std.specs.Prelude.{Option, Some, None, SomeIff}
use Rattle.definitions.specs.If.{when◌then◌else◌}
use Rattle.definitions.specs.Stream.{broken, read}
use Rattle.definitions.specs.Table.{scalar, elements, fields, TypeLayout, concrete, handle, failed, read_layout}
use Rattle.numbers.specs.Words.{number_at, word}
use Rattle.numbers.proofs.Numbers.{number_at_lem}
use Rattle.layout.specs.Bytes.{fields_at}
use Rattle.layout.specs.Values.{Ended, Ends}
use Rattle.layout.proofs.Fields.{fields_read}
use Rattle.layout.proofs.View.{refused}

module _ (s : List ℕ) (p : ℕ) where
  -- the kind, and the bytes behind it
  from_kind : (k : ℕ) → p < length s → get_or s p 0 ≡ k → drop p s ≡ k ∷ drop (p + 1) s
  from_kind k h e = let z : p + 1 ≡ suc p = omega arith in rw (z, ← e, drop-cons s p 0 h)

  -- What is read of each kind

  pub handle_read : p < length s → get_or s p 0 ≡ 0x23 → read_layout (drop p s) ≡ read handle (drop (p + 1) s)
  unfolding when◌then◌else◌
  handle_read h k = rw (from_kind 0x23 h k)

  pub failed_read : p < length s → get_or s p 0 ≡ 0x24 → read_layout (drop p s) ≡ read failed (drop (p + 1) s)
  unfolding when◌then◌else◌
  failed_read h k = rw (from_kind 0x24 h k)

  pub scalar_read : p + 9 ≤ length s → get_or s p 0 ≡ 0x20 → read_layout (drop p s) ≡ read (concrete (word s (p + 1)) (word s (p + 5)) scalar) (drop (p + 9) s)
  unfolding when◌then◌else◌
  scalar_read h k =
      rw (from_kind 0x20 (omega arith) k, number_at_lem 4 s (p + 1) (p + 5) (omega arith) (omega arith), number_at_lem 4 s (p + 5) (p + 9) (omega arith) h)

  pub elements_read : p + 21 ≤ length s → get_or s p 0 ≡ 0x21 → (word s (p + 9) ≡ 0 → ⊥) → read_layout (drop p s) ≡
      read (concrete (word s (p + 1)) (word s (p + 5)) (elements (word s (p + 9)) (word s (p + 13)) (word s (p + 17)))) (drop (p + 21) s)
  unfolding when◌then◌else◌
  elements_read h k w =
      rw (
        from_kind 0x21 (omega arith) k,
        number_at_lem 4 s (p + 1) (p + 5) (omega arith) (omega arith),
        number_at_lem 4 s (p + 5) (p + 9) (omega arith) (omega arith),
        number_at_lem 4 s (p + 9) (p + 13) (omega arith) (omega arith),
        number_at_lem 4 s (p + 13) (p + 17) (omega arith) (omega arith),
        number_at_lem 4 s (p + 17) (p + 21) (omega arith) h,
        ne_eqb (word s (p + 9)) 0 w,
      )

  pub list_read : (n : ℕ) → n ≡ number_at 2 s (p + 9) → n ≤ 64 → p + (11 + n * 8) ≤ length s → get_or s p 0 ≡ 0x22 → read_layout (drop p s) ≡
      read (concrete (word s (p + 1)) (word s (p + 5)) (fields (fields_at s (p + 11) n))) (drop (p + (11 + n * 8)) s)
  unfolding when◌then◌else◌
  list_read n e m h k =
      rw (
        from_kind 0x22 (omega arith) k,
        number_at_lem 4 s (p + 1) (p + 5) (omega arith) (omega arith),
        number_at_lem 4 s (p + 5) (p + 9) (omega arith) (omega arith),
        number_at_lem 2 s (p + 9) (p + 11) (omega arith) (omega arith),
        ← e,
        le-ltb 64 n m,
        fields_read s n (p + 11) (p + (11 + n * 8)) (omega arith) h,
      )

  -- Where a record ends, or that there is none

  ended : {l : TypeLayout} (k : ℕ) → k ≤ 523 → p + k ≤ length s → read_layout (drop p s) ≡ read l (drop (p + k) s) → Ended s p (p + k)
  ended {l} k b w e = record { layout = l; stands = e; near = omega arith; within = w }

  pub no_kind : (get_or s p 0 ≡ 0x20 → ⊥) → (get_or s p 0 ≡ 0x21 → ⊥) → (get_or s p 0 ≡ 0x22 → ⊥) → (get_or s p 0 ≡ 0x23 → ⊥) → (get_or s p 0 ≡ 0x24 → ⊥) →
      read_layout (drop p s) ≡ broken
  no_kind n₀ n₁ n₂ n₃ n₄ = refused s p (omega arith) (omega arith) (omega arith) (omega arith) (omega arith)

  pub lone_ends : p < length s → 0x23 ≤ get_or s p 0 → get_or s p 0 ≤ 0x24 → Ended s p (p + 1)
  lone_ends h l u =
      elim (ℕ_discrete (get_or s p 0) 0x23) [
        | yes k ↦ ended 1 (omega arith) (omega arith) (handle_read h k)
        | no n ↦ ended 1 (omega arith) (omega arith) (failed_read h (omega arith))
      ]

  pub scalar_ends : (r : Option ℕ) → get_or s p 0 ≡ 0x20 → SomeIff r (p + 9 ≤ length s) (p + 9) → Ends s p r
  scalar_ends (Some end) k (h, e) = rw e (ended 9 (omega arith) h (scalar_read h k))
  scalar_ends None k h = refused s p (omega arith) (omega arith) (omega arith) (omega arith) (omega arith)

  pub no_elements : get_or s p 0 ≡ 0x21 → (p + 21 ≤ length s → word s (p + 9) ≡ 0) → read_layout (drop p s) ≡ broken
  no_elements k h = refused s p (omega arith) (omega arith) (omega arith) (omega arith) (omega arith)

  pub elements_ends : p + 21 ≤ length s → get_or s p 0 ≡ 0x21 → (word s (p + 9) ≡ 0 → ⊥) → Ended s p (p + 21)
  elements_ends h k w = ended 21 (omega arith) h (elements_read h k w)

  pub no_fields : get_or s p 0 ≡ 0x22 → (p + (11 + number_at 2 s (p + 9) * 8) ≤ length s → 64 < number_at 2 s (p + 9)) → read_layout (drop p s) ≡ broken
  no_fields k h = refused s p (omega arith) (omega arith) (omega arith) (omega arith) (omega arith)

  pub fields_ends : (r : Option ℕ) (n : ℕ) → n ≡ number_at 2 s (p + 9) → n ≤ 64 → get_or s p 0 ≡ 0x22 →
      SomeIff r (p + (11 + n * 8) ≤ length s) (p + (11 + n * 8)) → Ends s p r
  fields_ends (Some end) n e m k (h, z) = rw z (ended (11 + n * 8) (omega arith) h (list_read n e m h k))
  fields_ends None n e m k h = no_fields k (omega arith)
