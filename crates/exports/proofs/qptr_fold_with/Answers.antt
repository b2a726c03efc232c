-- `qptr_fold_with` meets its contract. The check finds this alone; written out, a wrong answer fails soon.
use Rattle.exports.proofs.Leaving.{left, kept}
use Rattle.exports.proofs.qptr_fold_with.Goals as goal

pub returns-clause-leaves : goal.returns-clause-leaves
returns-clause-leaves c = left c.numbers.ensures c.from.ensures (rw c.of-choices.ensures at c.fold.ensures.gives)

pub returns-clause-promised : goal.returns-clause-promised
returns-clause-promised c = kept c.numbers.ensures c.from.ensures c.fold.ensures.promised
