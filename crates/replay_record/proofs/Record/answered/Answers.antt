-- `Record::answered` meets its contract. The check finds this alone; written out, a wrong answer fails soon.
use Rattle.std.proofs.Common.{rules}
use Rattle.replay_record.proofs.Record.answered.Goals as goal

pub returns-then-length_at-a-2 : goal.returns-then-length_at-a-2
returns-then-length_at-a-2 c = search rules
