-- `Record::sound` meets its contract: the answer that was compared is what the call is defined to give.
use Rattle.replay_record.proofs.Agreeing.{sounded}
use Rattle.replay_record.proofs.Record.sound.Goals as goal

pub returns : goal.returns
returns c = λ e. sounded _ _ _ _ c.requires c.sound-got.ensures c.from.ensures (c.answered.ensures e)
