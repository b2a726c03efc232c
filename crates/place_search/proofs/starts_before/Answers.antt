-- `place_search::starts_before` meets its contract: the offset is compared as a number. The check finds this alone; written out, a wrong answer
-- fails soon.
use Rattle.std.proofs.Common.{rules}
use Rattle.place_search.proofs.starts_before.Goals as goal

pub returns-then-p-ne0 : goal.returns-then-p-ne0
returns-then-p-ne0 c = search rules
