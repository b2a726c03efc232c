-- The invariant: what is left to be said of all fields is what is to be said of those from i on.
use Rattle.layout.proofs.FieldRules.{Remaining}
use Rattle.layout.proofs.table.Table.fields_admitted.Given as goal

abbrev pub invariant-loop-i : goal.invariant-loop-i
invariant-loop-i l = Remaining l.self l.fields l.end l.i
