-- `copy` meets its contract. The loop's invariant: the first i bytes are copied, and the others are as they were.
use mathlib.Core.Path.{◌≡◌}
use lib.ListN.{length}
use lib.Seq.{paste}
use Rattle.call_answers.proofs.copy.Given as goal

abbrev pub invariant-loop-i : goal.invariant-loop-i
invariant-loop-i l = (l.to ≡ paste l.initial.to 0 l.from l.i) × (length l.to ≡ length l.initial.to)
