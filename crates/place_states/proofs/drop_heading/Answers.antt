-- `drop_heading` meets its contract: the report is what `take_back` leaves. The check finds this alone; written out, a wrong answer fails soon.
use Rattle.place_states.proofs.drop_heading.Goals as goal

pub returns : goal.returns
returns c = c.take_back.ensures
