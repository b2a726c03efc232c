-- `Choices::of` meets its contract: each choice is read off its bit.
use Rattle.qptr.specs.Choices.{choices_in}
use Rattle.qptr.proofs.choices.Choices.of.Goals as goal

pub returns : goal.returns
unfolding choices_in
returns c = rw (c.of.ensures, c.of-2.ensures)
