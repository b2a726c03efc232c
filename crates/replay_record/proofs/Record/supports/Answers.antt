-- `Record::supports` meets its contract: the answer that was compared is what the call is defined to give.
use Rattle.replay_record.proofs.Agreeing.{supported}
use Rattle.replay_record.proofs.Record.supports.Goals as goal

pub returns : goal.returns
returns c = λ e. supported _ c.choices.ensures _ _ _ _ _ c.requires c.get32-ty.ensures c.get32-offset.ensures c.supports-got.ensures c.from.ensures (c.answered.ensures e)
