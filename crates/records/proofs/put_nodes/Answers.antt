-- `records::put_nodes` meets its contract. One word is stored.
use borrow.Author.Rules.{rules}
use Rattle.records.proofs.Writing.{set_count}
use Rattle.records.proofs.put_nodes.Goals as goal

pub returns : goal.returns
returns c = search (set_count, rules)
