-- `records::put_child` meets its contract. Two bytes are stored.
use borrow.Author.Rules.{rules}
use Rattle.records.proofs.Writing.{set_child}
use Rattle.records.proofs.put_child.Goals as goal

pub returns : goal.returns
returns c = search (set_child, rules)
