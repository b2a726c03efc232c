-- A call's answer as numbers: what `call_answers` promises of it, carried to the caller's array.
-- Assumes nothing.
use Prim.Native.Nat.{ℕ}
use mathlib.Core.Path.{◌≡◌, ap, ◌∙◌}
use mathlib.Core.List.{List}
use Rattle.std.specs.Prelude.{Result as Returned}
use Rattle.definitions.specs.Calls.{Answer as Told, Written as Left}
use Rattle.call_answers.specs.Answers.{answer_of, told_of}
use Rattle.call_answers.specs.Writing.{Gives}
use Rattle.call_answers.specs.declared.Answer.{Answer}
use Rattle.call_answers.specs.declared.Refusal.{Refusal}
use Rattle.call_answers.specs.declared.Written.{Written}
use Rattle.calls.specs.Promised.{Promised}
use Rattle.exports.specs.Numbers.{numbers_of, ReturnsNumbers, ReturnsPromised}

module _ {a : Answer} {numbers : List ℕ} (is : numbers ≡ numbers_of (answer_of a)) where
  pub told : {said given : Told} → answer_of a ≡ said → said ≡ given → numbers ≡ numbers_of given
  told from gives = is ∙ ap numbers_of (from ∙ gives)

  pub left : {w : Left} {r : Returned Written Refusal} {output report : List ℕ} → answer_of a ≡ told_of r → Gives w r output report
      → ReturnsNumbers w numbers output report
  left from gives = record { numbers = told from gives.numbers; usage = gives.usage; reported = gives.reported }

  pub kept : {said : Told} {table list output : List ℕ} → answer_of a ≡ said → Promised table list said output → ReturnsPromised table list numbers output
  kept {said} from promise = record { told = said; numbers = is ∙ ap numbers_of from; promised = promise }
