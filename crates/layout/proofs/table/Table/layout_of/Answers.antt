-- The record at the place that is kept is the type's.
use borrow.Author.Rules.{rules}
use Rattle.layout.proofs.Types.{record_at}
use Rattle.layout.proofs.table.Table.layout_of.Goals as goal

pub layout_at-requires : goal.layout_at-requires
layout_at-requires c = search (record_at, rules)
