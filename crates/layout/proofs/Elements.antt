-- The element at a range's start contains it, or none does: each test of the definitions is one of the code.
-- Assumes nothing.
use Prim.Native.Nat.{ℕ, zero, suc, ◌+◌, ◌*◌, ◌/◌, ◌%◌, ◌≤◌, ◌<◌}
use native.Mathlib.Omega.{arith}
use mathlib.Core.Path.{◌≡◌, refl}
use mathlib.Core.Bool.{and-false}
use mathlib.Core.Option.{Option as Maybe, none as nothing, some}
use Rattle.std.specs.Prelude.{Option, Some, None}
use lib.Dec.{ltb, eqb}
use borrow.Author.Tests.{lt-ltb, le-ltb, le-leb, lt-leb, eq-eqb, ne_eqb}
use Rattle.definitions.specs.If.{when◌then◌else◌}
use Rattle.definitions.specs.Limits.{max32}
use Rattle.definitions.specs.Table.{Setting, fixed_size}
use Rattle.definitions.specs.Requests.Choices.{Choices}
use Rattle.definitions.specs.Containment.{at_length, element_size, in_element, in_elements}
use Rattle.qptr.specs.Choices.{choices_in}
use Rattle.layout.specs.Located.{Located, Says}
use Rattle.layout.specs.Containing.{size_in, InElements}
use Rattle.layout.specs.declared.table.Array.{Array}
use Rattle.layout.specs.declared.setting.Setting.{Setting as CodeSetting}

module _ (ch : Choices) (n len i : ℕ) where
  with_length : (len ≡ 0 → ⊥) → element_size ch n len i ≡ (when ltb i len then some n else when eqb i len then at_length ch else nothing)
  with_length h = go len h
    where
      go : (len : ℕ) → (len ≡ 0 → ⊥) → element_size ch n len i ≡ (when ltb i len then some n else when eqb i len then at_length ch else nothing)
      go zero h = absurd (h refl)
      go (suc len) h = refl

  pub no_length : len ≡ 0 → some n ≡ element_size ch n len i
  no_length e = rw e

  pub below_length : (len ≡ 0 → ⊥) → i < len → some n ≡ element_size ch n len i
  unfolding when◌then◌else◌
  below_length h l = rw (with_length h, lt-ltb i len l)

  pub at_length_lem : (len ≡ 0 → ⊥) → len ≤ i → i ≡ len → (r : Option ℕ) → size_in r ≡ at_length ch → size_in r ≡ element_size ch n len i
  unfolding when◌then◌else◌
  at_length_lem h l e r f = rw (with_length h, le-ltb i len l, eq-eqb i len e) f

  pub above_length : (len ≡ 0 → ⊥) → len ≤ i → (i ≡ len → ⊥) → nothing ≡ element_size ch n len i
  unfolding when◌then◌else◌
  above_length h l e = rw (with_length h, le-ltb i len l, ne_eqb i len e)

module _ (code : CodeSetting) (a : Array) (s e n : ℕ) (z : Says fixed_size code.table a.elem n) where
  -- what contains the range, by the element's size
  by_size : {v : Maybe ℕ} → v ≡ element_size (choices_in code.choices) n a.len (s / a.stride) → (st : Setting) → Located code.table st.table a.elem → choices_in code.choices ≡ st.choices →
      in_elements st a.stride a.elem a.len s e ≡ in_element (record { type = a.elem; rest = s % a.stride }) (s / a.stride * a.stride) e v
  by_size is st l chosen = rw (← z.is st.table l, ← chosen, ← is)

  module _ {m : ℕ} (is : some m ≡ element_size (choices_in code.choices) n a.len (s / a.stride)) where
    pub element_past_32_bits : (s / a.stride * a.stride + m < 4294967296 → ⊥) → InElements code a s e None
    unfolding when◌then◌else◌
    element_past_32_bits h = record {
      type = tt;
      is = λ st l chosen. rw (by_size is st l chosen, lt-leb (s / a.stride * a.stride + m) max32 (omega arith), and-false);
    }

    module _ {end : ℕ} (f : (s / a.stride * a.stride + m < 4294967296) × (end ≡ s / a.stride * a.stride + m)) where
      pub ends_before : end < e → InElements code a s e None
      unfolding when◌then◌else◌
      ends_before h = record { type = tt; is = λ st l chosen. rw (by_size is st l chosen, lt-leb e (s / a.stride * a.stride + m) (omega arith)) }

      pub in_element_lem : e ≤ end → InElements code a s e (Some (record { ty = a.elem; rest = s % a.stride; next = 1 }))
      unfolding when◌then◌else◌
      in_element_lem h = record {
        type = refl;
        is = λ st l chosen. (
          rw (by_size is st l chosen, le-leb e (s / a.stride * a.stride + m) (omega arith), le-leb (s / a.stride * a.stride + m) max32 (omega arith)),
          omega arith,
        );
      }
