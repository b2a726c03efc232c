-- `Record::wrote` meets its contract. The check finds this alone; written out, a wrong answer fails soon.
use Rattle.std.proofs.Common.{arith}
use Rattle.std.proofs.lemmas.Grind.{common_steps}
use Rattle.replay_record.proofs.Record.wrote.Goals as goal

pub returns-then-begins : goal.returns-then-begins
returns-then-begins c = grind (arith, common_steps)
