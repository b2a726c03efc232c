-- `questions::same_length` meets its contract. The check finds this alone; written out, a wrong answer fails soon.
use Rattle.std.proofs.Common.{rules}
use Rattle.support.proofs.questions.same_length.Goals as goal

pub returns-then-n-ne0 : goal.returns-then-n-ne0
returns-then-n-ne0 c = search rules

pub returns-else-n-ne0 : goal.returns-else-n-ne0
returns-else-n-ne0 c = search rules
