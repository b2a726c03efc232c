-- `qptr_receiver_part` meets its contract. The check finds this alone; written out, a wrong answer fails soon.
use mathlib.Core.Path.{ap, ◌∙◌}
use Rattle.definitions.specs.Calls.{receiver_call}
use Rattle.receiver_part.proofs.qptr_receiver_part.Goals as goal

pub returns : goal.returns
returns c = c.receiver-part.ensures ∙ ap (λ ch. receiver_call ch c.args.first.now c.args.second.now) c.of.ensures
