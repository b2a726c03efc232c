-- Numbers in bytes, the lowest first, at any place of a list of bytes.
-- Assumes nothing.
use Rattle.std.specs.Prelude.{ℕ, zero, suc, ◌+◌, ◌*◌, ◌%◌, ◌≤◌, ◌≡◌, List, get_or}
use Rattle.std.proofs.lemmas.List.Edits.{sets}
use Rattle.definitions.specs.Stream.{bytes}

-- the widths of numbers in streams and tables: no bytes, two or four
pub record Width (w : ℕ) : Type 0 where
  pub even : w % 2 ≡ 0
  pub small : w ≤ 4

-- the number in the w bytes from byte i on
unfoldable pub number_at : ℕ → List ℕ → ℕ → ℕ
number_at zero s i = 0
number_at (suc w) s i = get_or s i 0 + 256 * number_at w s (i + 1)

-- the list with v in the w bytes from byte i on
unfoldable pub put_at : ℕ → List ℕ → ℕ → ℕ → List ℕ
put_at w s i v = sets s i (bytes w v)

-- a word is four bytes

abbrev pub word : List ℕ → ℕ → ℕ
word s i = number_at 4 s i

abbrev pub put : List ℕ → ℕ → ℕ → List ℕ
put s i v = put_at 4 s i v
