-- What writing asks, that some usage is linked below the record and room for it, and what it gives, of each usage that stands there.
-- Assumes nothing.
use Rattle.std.specs.Prelude.{ℕ, ◌+◌, ◌*◌, ◌<◌, ◌≤◌, ◌≡◌, List, length}
use Rattle.definitions.specs.Usage.{Usage, Entries, nodes, count}
use Rattle.definitions.specs.Command.{head_of, argument_width}
use Rattle.definitions.specs.Stream.{bytes, write_head, write_node}
use Rattle.record_links.specs.Standing.{Stands, Row}
use Rattle.numbers.specs.Widths.{own_width}
use Rattle.stream_write.specs.Nodes.{Put}

-- some usage stands at record q
pub record Readable (s : List ℕ) (q : ℕ) : Type 0 where
  pub usage : Usage
  pub rank : ℕ → ℕ
  pub lo : ℕ
  pub hi : ℕ
  pub stands : Stands usage s q rank lo hi
  pub inside : q * 32 + 32 ≤ length s
  pub small : nodes usage < 65536

-- and its written form fits `out` from `at` on
pub record Fitting (s : List ℕ) (q : ℕ) (out : List ℕ) (at : ℕ) : Type 0 where
  pub standing : Readable s q
  pub room : at + length (write_node standing.usage) ≤ length out

-- and its own part alone fits
pub record OwnFitting (s : List ℕ) (q : ℕ) (out : List ℕ) (at : ℕ) : Type 0 where
  pub standing : Readable s q
  pub room : at + own_width (head_of standing.usage).command ≤ length out

-- some entries are linked from record q on
pub record Listed (s : List ℕ) (q : ℕ) : Type 0 where
  pub entries : Entries
  pub rank : ℕ → ℕ
  pub lo : ℕ
  pub hi : ℕ
  pub row : Row entries s q 0 rank lo hi
  pub small : count entries < 65536

-- r counts them
pub record CountIs (s : List ℕ) (q r : ℕ) : Type 0 where
  pub of : (es : Entries) (rank : ℕ → ℕ) (lo hi : ℕ) → Row es s q 0 rank lo hi → r ≡ count es
  pub small : r < 65536

-- r is written as the argument of the usage at record q
pub record ArgumentIs (s : List ℕ) (q r : ℕ) : Type 0 where
  pub of : (u : Usage) (rank : ℕ → ℕ) (lo hi : ℕ) → Stands u s q rank lo hi → bytes (argument_width (head_of u).command) r ≡ bytes (argument_width (head_of u).command) (head_of u).argument

-- r is the length of the usage at record q, written
pub record LengthIs (s : List ℕ) (q r : ℕ) : Type 0 where
  pub of : (u : Usage) (rank : ℕ → ℕ) (lo hi : ℕ) → Stands u s q rank lo hi → r ≡ length (write_node u)

-- its own part, and the whole of it, have come to `at`, and r is the place behind them

pub record OwnPut (s : List ℕ) (q : ℕ) (out : List ℕ) (at : ℕ) (out' : List ℕ) (r : ℕ) : Type 0 where
  pub of : (u : Usage) (rank : ℕ → ℕ) (lo hi : ℕ) → Stands u s q rank lo hi → Put (write_head (head_of u)) out at out' r

pub record UsagePut (s : List ℕ) (q : ℕ) (out : List ℕ) (at : ℕ) (out' : List ℕ) (r : ℕ) : Type 0 where
  pub of : (u : Usage) (rank : ℕ → ℕ) (lo hi : ℕ) → Stands u s q rank lo hi → Put (write_node u) out at out' r
