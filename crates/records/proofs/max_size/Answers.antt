-- `max_size` meets its contract. The check finds this alone; written out, a wrong answer fails soon.
use Rattle.std.proofs.Common.{rules}
use Rattle.records.proofs.max_size.Goals as goal

pub returns : goal.returns
returns c = search rules
