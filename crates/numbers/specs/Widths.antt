-- How many bytes the parts of a node take: as many as its command says.
-- Assumes nothing.
use Rattle.std.specs.Prelude.{ℕ, ◌+◌, ◌-◌, ◌≤◌}
use Rattle.definitions.specs.Command.{size_width, argument_width}
use Rattle.numbers.specs.Words.{Width}

-- a size in w bytes: a flag, and a number behind it
pub record SizeWidth (w : ℕ) : Type 0 where
  pub some : 1 ≤ w
  pub number : Width (w - 1)

-- the bytes of a node's own part: its command, its size and its argument
abbrev pub own_width : ℕ → ℕ
own_width c = 1 + size_width c + argument_width c
