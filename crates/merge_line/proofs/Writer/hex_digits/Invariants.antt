use lib.ListN.{take}
use Rattle.merge_line.specs.Frame.{hex_digits}
use Rattle.merge_line.specs.Put.{Put}
use Rattle.merge_line.proofs.Writer.hex_digits.Given as goal

abbrev pub invariant-loop-b : goal.invariant-loop-b
invariant-loop-b l = Put l.initial.self (hex_digits (take l.b-index l.s)) l.self
