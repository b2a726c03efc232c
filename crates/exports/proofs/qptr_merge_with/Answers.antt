-- `qptr_merge_with` meets its contract. The check finds this alone; written out, a wrong answer fails soon.
use Rattle.exports.proofs.Leaving.{left}
use Rattle.exports.proofs.qptr_merge_with.Goals as goal

pub returns : goal.returns
returns c = left c.numbers.ensures c.from.ensures (rw c.of-choices.ensures at c.merge.ensures)
