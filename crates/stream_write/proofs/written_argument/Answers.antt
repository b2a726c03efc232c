-- `stream_write::written_argument` meets its contract: a map's entries are counted, any other argument is kept.
use borrow.Author.Rules.{rules}
use Rattle.stream_write.proofs.Roots.{map_listed, argument_counted, argument_kept}
use Rattle.stream_write.proofs.written_argument.Goals as goal

pub entries-requires : goal.entries-requires
entries-requires c = search (map_listed, rules)

pub returns-in-OffsetBase : goal.returns-in-OffsetBase
returns-in-OffsetBase c = search (argument_counted, rules)

pub returns-in_default : goal.returns-in_default
returns-in_default c = search (argument_kept, rules)
