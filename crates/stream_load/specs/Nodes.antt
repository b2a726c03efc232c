-- One node of a stream: its own part, with its offset in front where it is a map's entry.
-- Assumes nothing.
use Rattle.std.specs.Prelude.{ℕ, ◌+◌, ◌-◌, ◌^◌, ◌<◌, ◌≡◌, List, ◌++◌, eqb, get_or, drop}
use Rattle.definitions.specs.If.{when◌then◌else◌}
use Rattle.definitions.specs.Usage.{Size, In32, Usage}
use Rattle.definitions.specs.Command.{head_of, argument_width}
use Rattle.definitions.specs.Stream.{bytes, write_head}
use Rattle.numbers.specs.Words.{number_at}
use Rattle.records.specs.Records.{size_from}

-- the size in the w bytes from byte i on
unfoldable pub size_at : ℕ → List ℕ → ℕ → Size
size_at w s i = size_from (get_or s i 0) (number_at (w - 1) s (i + 1))

-- The bytes of the offset in front of the node behind one of command c: behind an array comes its element, which has none, and
-- behind any other node only an entry can come.
unfoldable pub front_behind : ℕ → ℕ
front_behind c = when eqb c 0x04 then 0 else 4

-- a node's own bytes
abbrev pub own : ℕ → ℕ → Usage → List ℕ
own front o u = bytes front o ++ write_head (head_of u)

-- u's own bytes stand at `at`, each number within its width, and then `rest`
pub record OwnAt (front o : ℕ) (u : Usage) (s : List ℕ) (at : ℕ) (rest : List ℕ) : Type 0 where
  pub offset : o < 256 ^ front
  pub size : In32 (head_of u).size
  pub argument : (head_of u).argument < 256 ^ argument_width (head_of u).command
  pub text : drop at s ≡ own front o u ++ rest
