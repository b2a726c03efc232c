-- `node` meets its contract: the loop keeps that what is still to be read, with what is counted, tells what the node at `from` does, and fewer bytes are left.
use Prim.Native.Nat.{◌-◌}
use mathlib.Core.Path.{◌≡◌}
use lib.ListN.{length}
use Rattle.stream.proofs.Counting.{Counting}
use Rattle.stream.proofs.node.Given as goal

abbrev pub invariant-loop-node : goal.invariant-loop-node
invariant-loop-node l = (length l.window ≡ length l.initial.window) × Counting l.s l.from l.window l.at l.owed l.maps l.nodes l.types

abbrev pub decreases-loop-node : goal.decreases-loop-node
decreases-loop-node l = length l.s - l.at
