-- `qptr_receiver_with` meets its contract. The check finds this alone; written out, a wrong answer fails soon.
use mathlib.Core.Path.{ap, ◌∙◌}
use Rattle.exports.specs.Numbers.{number_of}
use Rattle.exports.proofs.qptr_receiver_with.Goals as goal

pub returns : goal.returns
returns c = c.number.ensures ∙ ap number_of (rw c.of.ensures at c.receiving.ensures)
