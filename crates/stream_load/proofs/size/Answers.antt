-- `stream_load::size` meets its contract: the flag tells a dynamic size from a fixed one, whose number stands behind it.
use borrow.Author.Rules.{rules}
use Rattle.stream_load.proofs.Numbers.{size_dynamic, size_fixed}
use Rattle.stream_load.proofs.size.Goals as goal

pub returns-in-0 : goal.returns-in-0
returns-in-0 c = search (size_dynamic, rules)

pub returns-in_default : goal.returns-in_default
returns-in_default c = search (size_fixed, rules)
