-- What a record consists of (differential/README.md, "The recorded answers"), and what keeps every index in range.
-- Assumes nothing.
use Rattle.std.specs.Prelude.{ℕ, ◌+◌, ◌-◌, ◌≤◌, ◌<◌, ◌≡◌, List, ◌++◌, length, take, drop, replicate, Option as Maybe, None, Some, MatchOption}
use Rattle.definitions.specs.Stream.{read}
use Rattle.numbers.specs.Words.{word}
use Rattle.merge_line.specs.Frame.{Blocks, read_blocks}
use Rattle.replay_record.specs.declared.Call.{Call}
use Rattle.replay_record.specs.declared.Call.TheVariants.{Receiver, Supports, Writing as Writes, Sound}
use Rattle.replay_record.specs.declared.Writing.{Writing}
use Rattle.replay_record.specs.declared.Writing.TheVariants.{Place, Merge, Fold}
use Rattle.replay_record.specs.declared.Counts.{Counts}

-- the calls by number

abbrev pub writing_number : Writing → ℕ
writing_number Place = 2
writing_number Merge = 3
writing_number Fold = 4

abbrev pub number_of : Call → ℕ
number_of Receiver = 0
number_of Supports = 1
number_of (Writes w) = writing_number w
number_of Sound = 5

abbrev pub NamesCall : ℕ → Maybe Call → Type 0
NamesCall n r = MatchOption r (5 < n) (λ call. number_of call ≡ n)

-- In front of a record's parts stand the call, the length of the work area, the type, the offset and the choices. Behind them stand the
-- buffers, the answer, and what was written.
pub record Recorded : Type 0 where
  pub head : List ℕ
  pub parts : Blocks
  pub tail : List ℕ

-- s is this record
pub record Recording (s : List ℕ) (r : Recorded) : Type 0 where
  pub head : r.head ≡ take 17 s
  pub parts : read_blocks (drop 17 s) ≡ read r.parts r.tail

-- what stands in front of the parts and behind them is whole: the buffers hold what was written, and the record ends with it
pub record Fits (head tail : List ℕ) : Type 0 where
  pub front : length head ≡ 17
  pub behind : 30 ≤ length tail
  pub work : word head 1 ≤ 49160
  pub output : word tail 0 ≤ 16384
  pub report : word tail 5 ≤ 16384
  pub usage : word tail 18 ≤ word tail 0
  pub text : word tail 22 ≤ word tail 5
  pub end : 30 + word tail 18 + word tail 22 ≡ length tail

-- one record is counted once
abbrev pub Single : Maybe Counts → Type 0
Single (Some c) = (c.compared ≤ 1) × (c.different ≤ 1)
Single None = Unit {0}

-- a buffer begins with these bytes, and has nothing but `rest` behind them
abbrev pub Begins : List ℕ → List ℕ → ℕ → Type 0
Begins buf bytes rest = buf ≡ bytes ++ replicate (length buf - length bytes) rest
