-- `State::finished` meets its contract: the state is the one written. The check finds this alone; written out, a wrong answer fails soon.
use Rattle.std.proofs.Common.{refl}
use Rattle.place_states.proofs.State.finished.Goals as goal

pub returns : goal.returns
returns c = refl
