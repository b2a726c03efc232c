-- `RefusalFromSizeRefusal::from` meets its contract. The check finds this alone; written out, a wrong answer fails soon.
use Rattle.std.proofs.Common.{refl}
use Rattle.call_answers.proofs.RefusalFromSizeRefusal.from.Goals as goal

pub returns : goal.returns
returns c = refl
