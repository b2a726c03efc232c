-- `qptr_supports_with` meets its contract. The check finds this alone; written out, a wrong answer fails soon.
use Rattle.exports.proofs.Leaving.{told}
use Rattle.exports.proofs.qptr_supports_with.Goals as goal

pub returns : goal.returns
returns c = told c.numbers.ensures c.from.ensures (rw c.of-choices.ensures at c.supports.ensures)
