-- `take_result` meets its contract: the report is what `take_back` leaves, and the state is the one written. The check finds this alone;
-- written out, a wrong answer fails soon.
use Rattle.std.proofs.Common.{refl}
use Rattle.place_rules.proofs.take_result.Goals as goal

pub returns : goal.returns
returns c = record { on = c.take_back.ensures; state = refl }
