-- `known_types` meets its contract. The check finds this alone; written out, a wrong answer fails soon.
use Rattle.std.proofs.Common.{refl}
use Rattle.call_inputs.proofs.known_types.Goals as goal

pub returns-then-types-needed : goal.returns-then-types-needed
returns-then-types-needed c = (refl, c.if-types-needed.true)
