-- A comparison that says the same: what was compared is replaced by what the definition gives.
-- Assumes nothing.
use Prim.Native.Nat.{ℕ}
use mathlib.Core.Path.{◌≡◌, refl, subst, ◌∙◌}
use mathlib.Core.Bool.{Bool}
use mathlib.Core.List.{List}
use native.Mathlib.Omega.{arith}
use Rattle.std.specs.Prelude.{Result as Returned}
use Rattle.definitions.specs.If.{when◌then◌else◌}
use Rattle.definitions.specs.Calls.{Answer as Told, receiver_call, supports_call, place_call, merge_call, fold_call, sound_call}
use Rattle.definitions.specs.Requests.Choices.{Choices}
use Rattle.numbers.specs.Words.{word}
use Rattle.call_answers.specs.Answers.{answer_of, said_of}
use Rattle.call_answers.specs.declared.Answer.{Answer}
use Rattle.call_answers.specs.declared.Refusal.{Refusal}
use Rattle.replay_record.specs.Parts.{Recorded, writing_number}
use Rattle.replay_record.specs.Agrees.{Says, Handed, chosen, called, Writes, Agrees, receiver, supports, writing, sound}
use Rattle.replay_record.specs.declared.Writing.{Writing}
use Rattle.replay_record.specs.declared.Writing.TheVariants.{Place, Merge, Fold}

module _ (r : Recorded) where
  pub sounded : (a : Answer) (got : Returned Bool Refusal) (work : ℕ) → work ≡ word r.head 1
      → said_of got ≡ sound_call r.parts.table work r.parts.first → answer_of a ≡ said_of got → Says r.tail 10 (answer_of a) → Agrees r 5
  sounded a got work e is same says = sound (subst (λ (t : Told). Says r.tail 10 t) (same ∙ rw e at is) says)

  pub wrote_agrees : (w : Writing) → Writes r (writing_number w) → Agrees r (writing_number w)
  wrote_agrees Place h = writing 2 (omega arith) (omega arith) h
  wrote_agrees Merge h = writing 3 (omega arith) (omega arith) h
  wrote_agrees Fold h = writing 4 (omega arith) (omega arith) h

  -- the calls that are made with choices
  module _ {ch : Choices} (made : ch ≡ chosen r) where
    pub handed : (number : ℕ) (part : List ℕ) → number ≡ word r.tail 10 → part ≡ receiver_call ch r.parts.first r.parts.second
        → Handed r.parts.first r.parts.second number part → Agrees r 0
    handed number part e f h = receiver (rw (e, rw made at f) at h)

    pub supported : (a : Answer) (got : Returned Bool Refusal) (work ty offset : ℕ) → work ≡ word r.head 1 → ty ≡ word r.head 5 → offset ≡ word r.head 9
        → said_of got ≡ supports_call ch r.parts.table work ty offset r.parts.first → answer_of a ≡ said_of got → Says r.tail 10 (answer_of a) → Agrees r 1
    supported a got work ty offset e f g is same says = supports (subst (λ (t : Told). Says r.tail 10 t) (same ∙ rw (made, e, f, g) at is) says)

    module _ (w : Writing) (output : List ℕ) (n : ℕ) where
      pub is_place : (work offset : ℕ) → w ≡ Place → work ≡ word r.head 1 → offset ≡ word r.head 9
          → place_call ch r.parts.table work r.parts.first offset r.parts.second output n ≡ called (writing_number w) r output n
      unfolding called when◌then◌else◌
      is_place work offset e f g = rw (made, e, f, g) refl

      pub is_merge : (work : ℕ) → w ≡ Merge → work ≡ word r.head 1
          → merge_call ch r.parts.table work r.parts.first r.parts.second output n ≡ called (writing_number w) r output n
      unfolding called when◌then◌else◌
      is_merge work e f = rw (made, e, f) refl

      pub is_fold : (work : ℕ) → w ≡ Fold → work ≡ word r.head 1 → fold_call ch r.parts.table work r.parts.first output n ≡ called (writing_number w) r output n
      unfolding called when◌then◌else◌
      is_fold work e f = rw (made, e, f) refl
