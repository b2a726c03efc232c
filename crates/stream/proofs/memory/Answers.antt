-- `memory` meets its contract: the first byte says whether a node follows.
use native.Mathlib.Omega.{arith}
use Rattle.stream.proofs.Firsts.{nothing_first, memory_node, memory_other}
use Rattle.stream.proofs.memory.Goals as goal

pub returns-in-10 : goal.returns-in-10
returns-in-10 c = rw (memory_node c.args.s.now (omega arith)) c.alone.ensures

pub returns-in_default : goal.returns-in_default
returns-in_default c = let s = c.args.s.now in rw (memory_other s (omega (arith, nothing_first s (omega arith))))

pub returns-in_default-2 : goal.returns-in_default-2
returns-in_default-2 c = rw (memory_other c.args.s.now (λ e. omega arith))
