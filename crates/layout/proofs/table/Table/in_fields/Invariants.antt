-- The invariant: no field from `from` to i contains the range, so the list is that from i on.
use Rattle.layout.proofs.InFields.{Seeking}
use Rattle.layout.proofs.table.Table.in_fields.Given as goal

abbrev pub invariant-loop-i : goal.invariant-loop-i
invariant-loop-i l = Seeking l.self l.fields l.from l.start l.end l.i
