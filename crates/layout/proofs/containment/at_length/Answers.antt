-- `containment::at_length` meets its contract: each lookup has its arm.
use Rattle.definitions.specs.If.{when◌then◌else◌}
use Rattle.qptr.specs.Choices.{choices_in}
use Rattle.layout.proofs.containment.at_length.Goals as goal

pub returns-in-Lenient : goal.returns-in-Lenient
unfolding choices_in when◌then◌else◌
returns-in-Lenient c = rw c.in-Lenient.is

pub returns-in-Strict : goal.returns-in-Strict
unfolding choices_in when◌then◌else◌
returns-in-Strict c = rw c.in-Strict.is
