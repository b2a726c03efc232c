-- What is promised of a fold of sound nodes: demand 3, of the call.
-- Assumes nothing.
use Rattle.std.specs.Prelude.{ℕ, ◌≡◌, true, List, ◌∷◌, length, take}
use Rattle.std.proofs.Math.Option.{some}
use Rattle.definitions.specs.Usage.{Usage, memory, Nodes}
use Rattle.definitions.specs.Stream.{write_top, list_of}
use Rattle.definitions.specs.Table.{Table, table_of}
use Rattle.definitions.specs.Sound.{Sound, Storable, Each, Fulfils}
use Rattle.definitions.specs.Calls.{Answer, all_types_in}

-- The promise for sound nodes, of which the table has all types: no refusal 8 or 9; and in an answer the usage at the start of the
-- output and the pairings fulfil what is promised of folding them. The nodes come from a stream, so the usage keeps the stream rules
-- too, with types that the table has.

pub record SoundAnswer (t : Table) (ns : Nodes) (a : Answer) (output : List ℕ) : Type 0 where
  pub usage : Usage
  pub written : take a.usage output ≡ write_top (memory usage)
  pub fulfils : Fulfils ns usage a.pairings
  pub storable_usage : Storable (length t) usage

pub record SoundlyFolded (t : Table) (ns : Nodes) (a : Answer) (output : List ℕ) : Type 0 where
  pub not_8 : a.number ≡ 8 → ⊥
  pub not_9 : a.number ≡ 9 → ⊥
  pub answered : a.number ≡ 0 → SoundAnswer t ns a output

pub record Promised (table list : List ℕ) (a : Answer) (output : List ℕ) : Type 0 where
  pub of : (t : Table) (ns : Nodes) → table_of table ≡ some t → list_of list ≡ some ns → all_types_in t (ns.first ∷ ns.others) ≡ true
      → Each Sound ns → SoundlyFolded t ns a output
