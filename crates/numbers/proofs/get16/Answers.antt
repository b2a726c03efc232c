-- `numbers::get16` meets its contract. The number is a sum of two bytes.
use native.Mathlib.Omega.{arith}
use Rattle.numbers.specs.Words.{number_at}
use Rattle.numbers.proofs.get16.Goals as goal

pub returns : goal.returns
unfolding number_at
returns c = omega (arith, c.from_le_bytes.ensures)
