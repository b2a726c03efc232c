-- `Report::straddle` meets its contract. The two offsets stand behind the byte.
use Rattle.report.proofs.Emitting.{emitted_after}
use Rattle.report.proofs.Report.straddle.Goals as goal

pub returns : goal.returns
returns c = emitted_after (emitted_after c.byte.ensures c.word.ensures) c.word-2.ensures
