-- `ConflictFromNotAsked::from` meets its contract: each reason has its conflict. The check finds this alone; written out, a wrong answer
-- fails soon.
use Rattle.std.proofs.Common.{refl}
use Rattle.place_leaf.proofs.ConflictFromNotAsked.from.Goals as goal

pub returns-in-Handle : goal.returns-in-Handle
returns-in-Handle c = rw c.in-Handle.is refl
