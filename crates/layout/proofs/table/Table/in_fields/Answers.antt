-- The invariant: no field from `from` to i contains the range, so the list is that from i on.
use borrow.Author.Rules.{rules}
use Rattle.layout.proofs.InFields.{from_here, next_contains, this_contains}
use Rattle.layout.proofs.table.Table.in_fields.Goals as goal

pub loop-i-init : goal.loop-i-init
loop-i-init c = from_here

pub returns-then-field_contains : goal.returns-then-field_contains
returns-then-field_contains c = search (this_contains, rules)

pub loop-i-preserved : goal.loop-i-preserved
loop-i-preserved c = search (next_contains, rules)
