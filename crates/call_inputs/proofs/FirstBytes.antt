-- The bytes of a top: the first says of which kind it is, and behind an Opaque's stands its type. So an Opaque and another top conflict
-- unless both their first bytes and what stands behind them are the same.
-- Assumes nothing.
use Prim.Native.Nat.{ℕ, ◌+◌, ◌≤◌}
use mathlib.Core.Path.{◌≡◌, refl, sym, ◌∙◌}
use mathlib.Core.Bool.{Bool, true, false, not}
use mathlib.Core.List.{List, []}
use mathlib.Core.Option.{some}
use native.Mathlib.Omega.{arith}
use borrow.Author.Tests.{ne_eqb, eq-eqb, eqb-true, eqb-false}
use lib.Dec.{eqb}
use lib.ListN.{length, get_or}
use Rattle.definitions.specs.If.{when◌then◌else◌}
use Rattle.definitions.specs.Usage.{Top, opaque, buffer, memory}
use Rattle.definitions.specs.Command.{command_at, argument_width}
use Rattle.definitions.specs.Stream.{write_top, top_of}
use Rattle.definitions.specs.Table.{Setting}
use Rattle.definitions.specs.Place.{done, unlike, merge}
use Rattle.definitions.proofs.Written.{Bytes}
use Rattle.definitions.proofs.Numbers.{bytes_length}
use Rattle.definitions.proofs.Rounds.{top_written}
use Rattle.numbers.specs.Words.{Width, number_at}
use Rattle.numbers.proofs.Numbers.{number_is}
use Rattle.numbers.proofs.Widths.{argument_width_lem}
use Rattle.call_inputs.specs.Tops.{OpaqueFirst, Conflicts}

abbrev pub first_byte_of : Top → ℕ
first_byte_of (opaque t) = 0x08
first_byte_of (buffer u) = 0x09
first_byte_of (memory u) = 0x0A

begins : (x : Top) → (get_or (write_top x) 0 0 ≡ first_byte_of x) × (1 ≤ length (write_top x))
begins (opaque t) = (refl, omega arith)
begins (buffer u) = (refl, omega arith)
begins (memory u) = (refl, omega arith)

module _ (bs : List ℕ) (bytes : Bytes bs) where
  pub some_bytes : {x : Top} → top_of bs ≡ some x → 1 ≤ length bs
  some_bytes {x} e = rw (top_written bs x bytes e).0 (begins x).1

  pub first_byte : {x : Top} → top_of bs ≡ some x → get_or bs 0 0 ≡ first_byte_of x
  first_byte {x} e = rw (top_written bs x bytes e).0 (begins x).0

  -- such a first byte is an Opaque's
  pub opaque_by : {x : Top} → top_of bs ≡ some x → get_or bs 0 0 ≡ 0x08 → (t : ℕ) × (top_of bs ≡ some (opaque t))
  opaque_by {x = opaque t} e is = (t, e)
  opaque_by {x = buffer u} e is = absurd (omega (arith, first_byte e))
  opaque_by {x = memory u} e is = absurd (omega (arith, first_byte e))

  pub opaque_bytes : {t w : ℕ} → w ≡ argument_width 0x08 → top_of bs ≡ some (opaque t) → Width w × (1 + w ≤ length bs)
  opaque_bytes {t} width e = rw width (argument_width_lem 0x08, rw (top_written bs (opaque t) bytes e).0 (omega (arith, bytes_length (argument_width 0x08) t)))

  opaque_type : {t w : ℕ} → w ≡ argument_width 0x08 → top_of bs ≡ some (opaque t) → number_at w bs 1 ≡ t
  unfolding command_at
  opaque_type {t} width e =
      let w = top_written bs (opaque t) bytes e in
      rw width (number_is 4 bs 1 t [] (omega (arith, w.1)) (rw w.0))

module _ (first second : List ℕ) (bytes : Bytes first) (bytes' : Bytes second) where
  pub other_bytes : {w : ℕ} → w ≡ argument_width 0x08 → OpaqueFirst first second → get_or first 0 0 ≡ get_or second 0 0 → Width w × (1 + w ≤ length second)
  other_bytes width tops same =
      let other = opaque_by second bytes' tops.second_is (sym same ∙ first_byte first bytes tops.first_is) in
      opaque_bytes second bytes' width other.1

  -- they conflict where they are not the same Opaque

  differing : ((t s : ℕ) → top_of first ≡ some (opaque t) → top_of second ≡ some (opaque s) → t ≡ s → ⊥) → Conflicts first second true
  unfolding when◌then◌else◌
  differing differ = record { of = of }
    where
      of : (st : Setting) (t : ℕ) (b : Top) → top_of first ≡ some (opaque t) → top_of second ≡ some b → merge st (opaque t) b ≡ unlike (opaque t)
      of st t (opaque s) e f = rw (ne_eqb t s (differ t s e f))
      of st t (buffer u) e f = refl
      of st t (memory u) e f = refl

  pub other_kind : (get_or first 0 0 ≡ get_or second 0 0 → ⊥) → Conflicts first second true
  other_kind differ = differing (λ t s e f same. differ (first_byte first bytes e ∙ sym (first_byte second bytes' f)))

  other_type : {w : ℕ} → w ≡ argument_width 0x08 → (number_at w first 1 ≡ number_at w second 1 → ⊥) → Conflicts first second true
  other_type width differ = differing (λ t s e f same. differ (opaque_type first bytes width e ∙ same ∙ sym (opaque_type second bytes' width f)))

  same_opaque : {w : ℕ} → w ≡ argument_width 0x08 → get_or first 0 0 ≡ get_or second 0 0 → number_at w first 1 ≡ number_at w second 1 → Conflicts first second false
  unfolding when◌then◌else◌
  same_opaque width same same-type = record { of = of }
    where
      of : (st : Setting) (t : ℕ) (b : Top) → top_of first ≡ some (opaque t) → top_of second ≡ some b → merge st (opaque t) b ≡ done (opaque t) [] 0
      of st t (opaque s) e f = rw (eq-eqb t s (sym (opaque_type first bytes width e) ∙ same-type ∙ opaque_type second bytes' width f))
      of st t (buffer u) e f = absurd (omega (arith, first_byte first bytes e, first_byte second bytes' f))
      of st t (memory u) e f = absurd (omega (arith, first_byte first bytes e, first_byte second bytes' f))

  -- the types decide, where the first bytes are the same
  pub told_by : {w : ℕ} → w ≡ argument_width 0x08 → get_or first 0 0 ≡ get_or second 0 0
      → Conflicts first second (not (eqb (number_at w first 1) (number_at w second 1)))
  told_by {w} width same = go (eqb (number_at w first 1) (number_at w second 1)) refl
    where
      go : (b : Bool) → eqb (number_at w first 1) (number_at w second 1) ≡ b → Conflicts first second (not b)
      go true e = same_opaque width same (eqb-true _ _ e)
      go false e = other_type width (eqb-false _ _ e)
