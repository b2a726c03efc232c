-- `at_once::outside` meets its contract. The check finds this alone; written out, a wrong answer fails soon.
use Rattle.std.proofs.Common.{refl}
use Rattle.support.proofs.at_once.outside.Goals as goal

pub returns-in-Dynamic : goal.returns-in-Dynamic
returns-in-Dynamic c = rw c.in-Dynamic.is refl
