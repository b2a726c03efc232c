-- `three_blocks` meets its contract. The check finds this alone; written out, a wrong answer fails soon.
use Rattle.std.proofs.Common.{rules}
use Rattle.merge_line.proofs.three_blocks.Goals as goal

pub returns : goal.returns
returns c = search rules
