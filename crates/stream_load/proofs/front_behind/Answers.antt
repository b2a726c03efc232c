-- `stream_load::front_behind` meets its contract: its test is the definition's.
use borrow.Author.Rules.{rules}
use Rattle.stream_load.proofs.Widths.{front_array, front_other}
use Rattle.stream_load.proofs.front_behind.Goals as goal

pub returns-in-DynOffsetBase : goal.returns-in-DynOffsetBase
returns-in-DynOffsetBase c = search (front_array, rules)

pub returns-in_default : goal.returns-in_default
returns-in_default c = search (front_other, rules)
