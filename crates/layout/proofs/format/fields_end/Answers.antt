-- Fields that are cut off, or more than 64, are no record; others end after the last of them.
use borrow.Author.Rules.{rules}
use Rattle.layout.proofs.Ends.{no_fields, fields_ends}
use Rattle.layout.proofs.format.fields_end.Goals as goal

pub returns-in_err-end_after : goal.returns-in_err-end_after
returns-in_err-end_after c = let h = c.in_err-end_after.ensures in rw c.from_residual.ensures (search (no_fields, rules))

pub returns-then-count-gt-MAX_FIELDS : goal.returns-then-count-gt-MAX_FIELDS
returns-then-count-gt-MAX_FIELDS c = search (no_fields, rules)

pub returns : goal.returns
returns c = search (fields_ends, rules)
