-- `Report::word` meets its contract. The check finds this alone; written out, a wrong answer fails soon.
use Rattle.std.proofs.Common.{arith}
use Rattle.std.proofs.lemmas.Grind.{common_steps}
use Rattle.report.proofs.Report.word.Goals as goal

pub returns : goal.returns
returns c = grind (arith, common_steps)
