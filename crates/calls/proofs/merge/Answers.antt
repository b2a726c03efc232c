-- `merge` meets its contract: with the starts that it is lent, it is the call of `with_starts`. The check finds this alone; written out, it
-- also ends with a message where the code is wrong.
use Rattle.std.proofs.Common.{of_calls}
use Rattle.calls.proofs.merge.Goals as goal

pub returns : goal.returns
returns c = search of_calls
