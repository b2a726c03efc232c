-- `few_nodes` meets its contract. The check finds this alone; written out, a wrong answer fails soon.
use Rattle.std.proofs.Common.{arith}
use Rattle.call_inputs.proofs.few_nodes.Goals as goal

pub returns : goal.returns
returns c = omega arith
