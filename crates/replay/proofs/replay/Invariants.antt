-- `replay` counts as many records as it has run, at most.
use Rattle.std.proofs.Common.{◌≤◌}
use Rattle.replay.proofs.replay.Given as goal

abbrev pub invariant-loop-i : goal.invariant-loop-i
invariant-loop-i l = (l.counts.compared ≤ l.i) × (l.counts.different ≤ l.i)
