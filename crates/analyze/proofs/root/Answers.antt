-- `root` meets its contract. The check finds this alone; written out, a wrong answer fails soon.
use Rattle.std.proofs.Common.{rules}
use Rattle.analyze.proofs.root.Goals as goal

pub max_size-requires : goal.max_size-requires
max_size-requires c = search rules

pub returns : goal.returns
returns c = search rules
