-- `records::put_offset` meets its contract. One word is stored.
use borrow.Author.Rules.{rules}
use Rattle.records.proofs.Writing.{set_offset}
use Rattle.records.proofs.put_offset.Goals as goal

pub returns : goal.returns
returns c = search (set_offset, rules)
