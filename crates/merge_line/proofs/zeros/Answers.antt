-- `zeros` meets its contract: as many zeros as its length says.
use Rattle.std.proofs.Common.{rules}
use Rattle.merge_line.specs.Frame.{zeros}
use Rattle.merge_line.proofs.zeros.Goals as goal

pub returns-clause-bytes : goal.returns-clause-bytes
unfolding zeros
returns-clause-bytes c = search rules
