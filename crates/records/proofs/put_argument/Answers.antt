-- `records::put_argument` meets its contract. One word is stored.
use borrow.Author.Rules.{rules}
use Rattle.records.proofs.Writing.{set_argument}
use Rattle.records.proofs.put_argument.Goals as goal

pub returns : goal.returns
returns c = search (set_argument, rules)
