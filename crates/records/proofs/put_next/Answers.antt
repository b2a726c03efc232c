-- `records::put_next` meets its contract. Two bytes are stored.
use borrow.Author.Rules.{rules}
use Rattle.records.proofs.Writing.{set_next}
use Rattle.records.proofs.put_next.Goals as goal

pub returns : goal.returns
returns c = search (set_next, rules)
