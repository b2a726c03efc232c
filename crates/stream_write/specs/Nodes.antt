-- A text that has come to its place.
-- Assumes nothing.
use Rattle.std.specs.Prelude.{ℕ, ◌+◌, ◌≡◌, List, length}
use Rattle.std.proofs.lemmas.List.Edits.{sets}
use Rattle.stream_write.specs.declared.Output.{Output}

-- the text stands in `out` from `at` on, all else is as it was, and r is the place behind it
pub record Put (text out : List ℕ) (at : ℕ) (out' : List ℕ) (r : ℕ) : Type 0 where
  pub stored : out' ≡ sets out at text
  pub behind : r ≡ at + length text

-- so too of a buffer and the position in it, before and after: it is the same buffer, as long as before, and what `Is` says of the
-- list, the place, the list now and the place behind holds of it
pub record Onto (Is : List ℕ → ℕ → List ℕ → ℕ → Type 0) (o o' : Output) : Type 0 where
  pub is : Is o.buffer.now o.at o'.buffer.now o'.at
  pub long : length o'.buffer.now ≡ length o.buffer.now
  pub same_buffer : o'.buffer.ghost_name ≡ o.buffer.ghost_name
