-- What a merge has written.
-- Assumes nothing.
use Rattle.std.specs.Prelude.{ℕ, List}
use Rattle.definitions.specs.Calls.{Written}
use Rattle.call_answers.specs.Answers.{answer_of}
use Rattle.call_answers.specs.declared.Answer.{Answer}

abbrev pub written : Answer → List ℕ → List ℕ → Written
written a output report = record { answer = answer_of a; output = output; report = report }
