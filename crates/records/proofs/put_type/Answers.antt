-- `records::put_type` meets its contract. Two fields are stored.
use native.Mathlib.Omega.{arith}
use borrow.Author.Rules.{rules}
use Rattle.records.proofs.Writing.{set_type}
use Rattle.records.proofs.put_type.Goals as goal

pub returns : goal.returns
returns c = rw c.from.ensures at (set_type _ _ _ _ _ _ c.put16.ensures c.put32.ensures (search rules) (omega (arith, c.from.ensures)) (search rules))
