-- `records::put_mark` meets its contract. The two spare words are stored.
use borrow.Author.Rules.{rules}
use Rattle.records.proofs.Writing.{marked}
use Rattle.records.proofs.put_mark.Goals as goal

pub returns : goal.returns
returns c = search (marked, rules)
