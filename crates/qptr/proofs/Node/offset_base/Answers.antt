-- `Node::offset_base` meets its contract. The check finds this alone; written out, a wrong answer fails soon.
use Rattle.std.proofs.Common.{rules}
use Rattle.qptr.proofs.Node.offset_base.Goals as goal

pub returns : goal.returns
returns c = search rules
