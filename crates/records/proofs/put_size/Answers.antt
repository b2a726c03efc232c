-- `records::put_size` meets its contract. Either way it is a flag and a number that are stored.
use borrow.Author.Rules.{rules}
use Rattle.records.proofs.Writing.{set_dynamic, set_fixed}
use Rattle.records.proofs.put_size.Goals as goal

pub returns-in-Dynamic : goal.returns-in-Dynamic
returns-in-Dynamic c = search (set_dynamic, rules)

pub returns-in-Fixed : goal.returns-in-Fixed
returns-in-Fixed c = search (set_fixed, rules)
