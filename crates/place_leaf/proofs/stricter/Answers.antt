-- `place_leaf::stricter` meets its contract: neither kind is the strict one. The check finds this alone; written out, a wrong answer fails soon.
use Rattle.std.proofs.Common.{rules}
use Rattle.place_leaf.proofs.stricter.Goals as goal

pub returns : goal.returns
returns c = search rules
