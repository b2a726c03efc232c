-- The blocks that were found in a text.
-- Assumes nothing.
use Rattle.std.specs.Prelude.{◌≡◌, List, ℕ, Option as Maybe, MatchOption}
use Rattle.std.specs.Borrow.{Bor}
use Rattle.std.proofs.Math.Option.{none as nothing, some}
use Rattle.definitions.specs.Stream.{broken, read}
use Rattle.merge_line.specs.declared.Parts.{Parts}
use Rattle.merge_line.specs.Frame.{Blocks, read_block, read_blocks, blocks_of}

-- the first block of s, and what stands behind it
abbrev pub FirstOf : List ℕ → Maybe (Bor (List ℕ) × Bor (List ℕ)) → Type 0
FirstOf s r = MatchOption r (read_block s ≡ broken) (λ b. read_block s ≡ read b.0.now b.1.now)

abbrev pub blocks_in : Parts → Blocks
blocks_in p = record { table = p.table.now; first = p.first.now; second = p.second.now }

-- the first three blocks of s, and what stands behind them
abbrev pub PartsOf : List ℕ → Maybe (Parts × Bor (List ℕ)) → Type 0
PartsOf s r = MatchOption r (read_blocks s ≡ broken) (λ p. read_blocks s ≡ read (blocks_in p.0) p.1.now)

-- the three blocks that s is
abbrev pub Framed : List ℕ → Maybe Parts → Type 0
Framed s r = MatchOption r (blocks_of s ≡ nothing) (λ p. blocks_of s ≡ some (blocks_in p))
