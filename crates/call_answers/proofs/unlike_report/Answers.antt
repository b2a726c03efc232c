-- `unlike_report` meets its contract. The check finds this alone; written out, a wrong answer fails soon.
use Rattle.std.proofs.Common.{refl}
use Rattle.call_answers.proofs.unlike_report.Goals as goal

pub returns-then-unlike : goal.returns-then-unlike
returns-then-unlike c = rw c.if-unlike.true refl
