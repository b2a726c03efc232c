-- How many records the bytes of a table say that they are, and the fields at any place of them.
-- Assumes nothing.
use Rattle.std.specs.Prelude.{ℕ, zero, suc, ◌+◌, List, [], ◌∷◌}
use Rattle.definitions.specs.Table.{Field}
use Rattle.numbers.specs.Words.{number_at, word}

abbrev pub record_count : List ℕ → ℕ
record_count s = number_at 2 s 0

-- so many fields, 8 bytes each, from byte i on
abbrev pub fields_at : List ℕ → ℕ → ℕ → List Field
fields_at s i zero = []
fields_at s i (suc k) = record { offset = word s i; type = word s (i + 4) } ∷ fields_at s (i + 8) k
