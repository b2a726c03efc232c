-- `pairing_at` meets its contract: at 0 the pair is merged. The check finds this alone; written out, a wrong answer fails soon.
use Rattle.std.proofs.Common.{refl}
use Rattle.place_arrays.proofs.pairing_at.Goals as goal

pub returns-in-0 : goal.returns-in-0
returns-in-0 c = rw c.in-0.is refl
