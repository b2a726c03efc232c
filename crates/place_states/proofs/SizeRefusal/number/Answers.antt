-- `SizeRefusal::number` meets its contract: each refusal has its number. The check finds this alone; written out, a wrong answer fails soon.
use Rattle.std.proofs.Common.{refl}
use Rattle.place_states.proofs.SizeRefusal.number.Goals as goal

pub returns-in-Outgrown : goal.returns-in-Outgrown
returns-in-Outgrown c = rw c.in-Outgrown.is refl

pub returns-in-Past32 : goal.returns-in-Past32
returns-in-Past32 c = rw c.in-Past32.is refl
