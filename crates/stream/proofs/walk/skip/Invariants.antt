-- `skip` meets its contract: the loop keeps that if the node at `from` reads, so does what is still to be read, and fewer bytes are left at each turn.
use Prim.Native.Nat.{◌-◌}
use lib.ListN.{length}
use Rattle.stream.proofs.Skipping.{Skipping}
use Rattle.stream.proofs.walk.skip.Given as goal

abbrev pub invariant-loop-node : goal.invariant-loop-node
invariant-loop-node l = Skipping l.s l.from l.at l.owed

abbrev pub decreases-loop-node : goal.decreases-loop-node
decreases-loop-node l = length l.s - l.at
