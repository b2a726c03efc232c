-- The program's input and its line (document 01, "Bench pairs").
-- Assumes nothing.
use Rattle.std.specs.Prelude.{◌≡◌, ℕ, zero, suc, ◌+◌, ◌*◌, ◌/◌, ◌%◌, ◌≤◌, List, [], ◌∷◌, ◌++◌, length, take, drop, replicate, nat_lt}
use Rattle.std.proofs.Math.Option.{Option, none as nothing, some}
use Rattle.definitions.specs.If.{when◌then◌else◌}
use Rattle.definitions.specs.Limits.{work_limit}
use Rattle.definitions.specs.Stream.{Read, broken, read, ◌then◌, number, whole}
use Rattle.definitions.specs.Calls.{Written, merge_call}
use Rattle.definitions.specs.Requests.Choices.{rust}

-- The input: three blocks, each behind its length (4), and nothing left over; 64 KiB at most

pub record Blocks : Type 0 where
  pub table : List ℕ
  pub first : List ℕ
  pub second : List ℕ

abbrev pub input_limit : ℕ
input_limit = 65536

abbrev pub read_block : List ℕ → Read (List ℕ)
read_block bs = number 4 bs then λ n rest. when nat_lt (length rest) n then broken else read (take n rest) (drop n rest)

abbrev pub read_blocks : List ℕ → Read Blocks
read_blocks bs =
    read_block bs then λ t bs₁.
    read_block bs₁ then λ f bs₂.
    read_block bs₂ then λ s rest.
    read (record { table = t; first = f; second = s }) rest

unfoldable pub blocks_of : List ℕ → Option Blocks
blocks_of bs = when nat_lt input_limit (length bs) then nothing else whole (read_blocks bs)

-- The line: number, pairings, output and report, and its end

-- a number's digits, of which there are at most f
abbrev pub digits_in : ℕ → ℕ → List ℕ
digits_in zero n = []
digits_in (suc f) n = when nat_lt n 10 then (0x30 + n) ∷ [] else digits_in f (n / 10) ++ (0x30 + n % 10) ∷ []

-- a number of 32 bits has at most ten
abbrev pub digits : ℕ → List ℕ
digits n = digits_in 10 n

-- 0 to 9, and then a to f
abbrev pub hex_digit : ℕ → ℕ
hex_digit n = when nat_lt n 10 then 0x30 + n else 0x57 + n

abbrev pub hex_digits : List ℕ → List ℕ
hex_digits [] = []
hex_digits (b ∷ bs) = hex_digit (b / 16) ∷ hex_digit (b % 16) ∷ hex_digits bs

-- `-` if empty
abbrev pub hex : List ℕ → List ℕ
hex [] = 0x2D ∷ []
hex (b ∷ bs) = hex_digits (b ∷ bs)

-- so long are the output and the report of the program
abbrev pub buffer_length : ℕ
buffer_length = 16384

unfoldable pub zeros : ℕ → List ℕ
zeros n = replicate n 0

abbrev pub answer_line : Written → List ℕ
answer_line w =
    digits w.answer.number ++ 0x20 ∷ digits w.answer.pairings ++ 0x20 ∷
    hex (take w.answer.usage w.output) ++ 0x20 ∷ hex (take w.answer.report w.report) ++ 0x0A ∷ []

-- `frame` where the input is not three blocks
abbrev pub line_for : Option Blocks → List ℕ
line_for nothing = 0x66 ∷ 0x72 ∷ 0x61 ∷ 0x6D ∷ 0x65 ∷ 0x0A ∷ []
line_for (some b) = answer_line (merge_call rust b.table work_limit b.first b.second (zeros buffer_length) buffer_length)

unfoldable pub line_of : List ℕ → List ℕ
line_of input = line_for (blocks_of input)

-- the longest line: two numbers, output and report in hex, and what stands behind each of the four
abbrev pub line_limit : ℕ
line_limit = 2 * 10 + 2 * (2 * buffer_length) + 4

-- the first n bytes of a buffer are the line, and the rest is as it was
pub record Line (input buffer buffer' : List ℕ) (n : ℕ) : Type 0 where
  pub within : n ≤ length buffer'
  pub is : take n buffer' ≡ line_of input
  pub rest : drop n buffer' ≡ drop n buffer
