-- The invariant: n records stand where the starts say, and the rest of the table is to be read behind them.
use Rattle.layout.proofs.Acceptance.{Reading}
use Rattle.layout.proofs.accept.Given as goal

abbrev pub invariant-loop-n : goal.invariant-loop-n
invariant-loop-n l = Reading l.s l.starts l.count l.at l.n
