-- `qptr_sound` meets its contract. The check finds this alone; written out, a wrong answer fails soon.
use Rattle.exports.proofs.Leaving.{told}
use Rattle.exports.proofs.qptr_sound.Goals as goal

pub returns : goal.returns
returns c = told c.numbers.ensures c.from.ensures c.sound.ensures
