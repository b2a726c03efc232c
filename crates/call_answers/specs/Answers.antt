-- What an answer stands for.
-- Assumes nothing.
use Rattle.std.specs.Prelude.{ℕ, Bool, true, false, [], Result as Returned, Ok, Err}
use Rattle.definitions.specs.Place.{done}
use Rattle.definitions.specs.Calls.{Answer as Told, refusal, said}
use Rattle.place_states.specs.Refusals.{number_of as size_number}
use Rattle.call_answers.specs.declared.Refusal.{Refusal}
use Rattle.call_answers.specs.declared.Refusal.TheVariants.{ShortWork, BadTable, BadFirst, BadSecond, UnknownType, NotConcrete, ManyNodes, Size, ShortOutput, ShortReport}
use Rattle.call_answers.specs.declared.Written.{Written}
use Rattle.call_answers.specs.declared.Answer.{Answer}

abbrev pub number_of : Refusal → ℕ
number_of ShortWork = 1
number_of BadTable = 2
number_of BadFirst = 3
number_of BadSecond = 4
number_of UnknownType = 5
number_of NotConcrete = 6
number_of ManyNodes = 7
number_of (Size e) = size_number e
number_of ShortOutput = 10
number_of ShortReport = 11

-- yes or no as a number of an answer
abbrev pub bit : Bool → ℕ
bit false = 0
bit true = 1

abbrev pub answer_of : Answer → Told
answer_of a = record { number = a.number; yes = a.yes; usage = a.usage; report = a.report; pairings = a.pairings }

-- a yes or no, or a refusal
abbrev pub said_of : Returned Bool Refusal → Told
said_of (Ok r) = said (done r [] 0)
said_of (Err e) = refusal (number_of e)

-- what was written, or a refusal
abbrev pub told_of : Returned Written Refusal → Told
told_of (Ok w) = record { number = 0; yes = false; usage = w.usage; report = w.report; pairings = w.pairings }
told_of (Err e) = refusal (number_of e)
