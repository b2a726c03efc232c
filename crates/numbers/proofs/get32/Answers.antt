-- `numbers::get32` meets its contract. The number is a sum of four bytes.
use native.Mathlib.Nat.{add_assoc}
use native.Mathlib.Omega.{arith}
use Rattle.numbers.specs.Words.{number_at}
use Rattle.numbers.proofs.get32.Goals as goal

pub returns : goal.returns
unfolding number_at
returns c = simp add_assoc (omega (arith, c.from_le_bytes.ensures))
