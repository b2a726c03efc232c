use lib.ListN.{take}
use Rattle.merge_line.specs.Put.{Put}
use Rattle.merge_line.proofs.Writer.bytes.Given as goal

abbrev pub invariant-loop-b : goal.invariant-loop-b
invariant-loop-b l = Put l.initial.self (take l.b-index l.s) l.self
