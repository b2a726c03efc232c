-- `soundness::chained` meets its contract. The loop's invariant: of the entries that are left, from the place where the last one ended, the answer is the same.
use Prim.Native.Nat.{◌-◌}
use Rattle.qptr.specs.Values.{size_of}
use Rattle.soundness.proofs.Chaining.{Chaining}
use Rattle.soundness.proofs.chained.Given as goal

abbrev pub invariant-loop-q : goal.invariant-loop-q
invariant-loop-q l = Chaining l.s l.from l.to (size_of l.map) l.q (size_of l.place)

abbrev pub decreases-loop-q : goal.decreases-loop-q
decreases-loop-q l = l.to - l.q
