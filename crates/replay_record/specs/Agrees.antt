-- What a record says (differential/README.md, "The recorded answers"), and that it is what the definition of its call gives.
-- Assumes nothing.
use Rattle.std.specs.Prelude.{ℕ, ◌+◌, ◌≤◌, ◌≡◌, Bool, not, List, [], eqb, get_or, take, drop, replicate, Option as Maybe, None, Some}
use Rattle.definitions.specs.If.{when◌then◌else◌}
use Rattle.definitions.specs.Calls.{Answer, Written, receiver_call, supports_call, place_call, merge_call, fold_call, sound_call}
use Rattle.definitions.specs.Requests.Choices.{Choices, choices_of}
use Rattle.numbers.specs.Words.{word}
use Rattle.call_answers.specs.Answers.{bit}
use Rattle.replay_record.specs.Parts.{Recorded, Recording, Begins}
use Rattle.replay_record.specs.declared.Counts.{Counts}

-- the choices
abbrev pub chosen : Recorded → Choices
chosen r = choices_of (word r.head 13)

-- the output before the call: its length, and the byte that fills it
abbrev pub output_in : Recorded → List ℕ
output_in r = replicate (word r.tail 0) (get_or r.tail 4 0)

-- Its answer

-- the five numbers at a place
pub record Says (s : List ℕ) (at : ℕ) (a : Answer) : Type 0 where
  pub number : word s at ≡ a.number
  pub yes : word s (at + 4) ≡ bit a.yes
  pub usage : word s (at + 8) ≡ a.usage
  pub report : word s (at + 12) ≡ a.report
  pub pairings : word s (at + 16) ≡ a.pairings

-- the buffers hold what is recorded: behind the usage the output is as it was, and behind the report are zeros
pub record Holds (r : Recorded) (output report : List ℕ) : Type 0 where
  pub usage : Begins output (take (word r.tail 18) (drop 30 r.tail)) (get_or r.tail 4 0)
  pub text : Begins report (drop (30 + word r.tail 18) r.tail) 0

pub record Wrote (r : Recorded) (w : Written) : Type 0 where
  pub numbers : Says r.tail 10 w.answer
  pub buffers : Holds r w.output w.report

-- of the receiver the number says which part is handed back: an empty one, the first stream or the second
pub data Handed (first second : List ℕ) : ℕ → List ℕ → Type 0 where
  nobody : Handed first second 0 []
  the_first : Handed first second 1 first
  the_second : Handed first second 2 second

-- The definitions

-- of the calls that write, which are 2 place, 3 merge and else fold, with an output and a report buffer of n bytes
unfoldable pub called : ℕ → Recorded → List ℕ → ℕ → Written
called call r output n =
    when eqb call 2 then place_call (chosen r) r.parts.table (word r.head 1) r.parts.first (word r.head 9) r.parts.second output n
    else when eqb call 3 then merge_call (chosen r) r.parts.table (word r.head 1) r.parts.first r.parts.second output n
    else fold_call (chosen r) r.parts.table (word r.head 1) r.parts.first output n

abbrev pub Writes : Recorded → ℕ → Type 0
Writes r call = Wrote r (called call r (output_in r) (word r.tail 5))

-- the record states what the call with this number gives
pub data Agrees (r : Recorded) : ℕ → Type 0 where
  receiver : Handed r.parts.first r.parts.second (word r.tail 10) (receiver_call (chosen r) r.parts.first r.parts.second) → Agrees r 0
  supports : Says r.tail 10 (supports_call (chosen r) r.parts.table (word r.head 1) (word r.head 5) (word r.head 9) r.parts.first) → Agrees r 1
  writing : (call : ℕ) → 2 ≤ call → call ≤ 4 → Writes r call → Agrees r call
  sound : Says r.tail 10 (sound_call r.parts.table (word r.head 1) r.parts.first) → Agrees r 5

-- What came of a record

-- it is counted once, and as different unless it is the same
abbrev pub Counted : Bool → Counts → Type 0
Counted is_same c = (c.compared ≡ 1) × (c.different ≡ bit (not is_same))

-- one that is counted without a difference is a record, and states what the definition of its call gives
abbrev pub Agreed : List ℕ → Maybe Counts → Type 0
Agreed s (Some c) = c.different ≡ 0 → (r : Recorded) × Recording s r × Agrees r (get_or s 0 0)
Agreed s None = Unit {0}
