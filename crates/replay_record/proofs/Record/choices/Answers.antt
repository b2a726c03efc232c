-- `Record::choices` meets its contract. The check finds this alone; written out, a wrong answer fails soon.
use mathlib.Core.Path.{ap, ◌∙◌}
use Rattle.definitions.specs.Requests.Choices.{choices_of}
use Rattle.replay_record.proofs.Record.choices.Goals as goal

pub returns : goal.returns
returns c = c.of.ensures ∙ ap choices_of c.get32.ensures
