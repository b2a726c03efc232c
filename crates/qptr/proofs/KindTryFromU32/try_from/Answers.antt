-- `KindTryFromU32::try_from` meets its contract. The check finds this alone; written out, a wrong answer fails soon.
use Rattle.std.proofs.Common.{rules}
use Rattle.qptr.proofs.KindTryFromU32.try_from.Goals as goal

pub returns-in-1 : goal.returns-in-1
returns-in-1 c = search rules

pub returns-in_default : goal.returns-in_default
returns-in_default c = search rules
