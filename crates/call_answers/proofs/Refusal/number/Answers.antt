-- `Refusal::number` meets its contract. The check finds this alone; written out, a wrong answer fails soon.
use Rattle.std.proofs.Common.{refl}
use Rattle.call_answers.proofs.Refusal.number.Goals as goal

pub returns-in-ShortReport : goal.returns-in-ShortReport
returns-in-ShortReport c = rw c.in-ShortReport.is refl
