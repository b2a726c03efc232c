-- `has_few` meets its contract: the count that it compares is the table's.
use Rattle.std.proofs.Common.{arith, leb-true}
use Rattle.layout.proofs.has_few.Goals as goal

pub returns-then-s-ge2 : goal.returns-then-s-ge2
returns-then-s-ge2 c = λ few. omega (arith, leb-true c.from.result 32 few, c.from.ensures, c.get16.ensures)
