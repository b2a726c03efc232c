-- The list begins with nothing.
use Rattle.support.proofs.Types.{asks_concrete}
use Rattle.support.proofs.supports_with.Goals as goal

pub supports_or_recalls-requires-clause-concrete_askable : goal.supports_or_recalls-requires-clause-concrete_askable
supports_or_recalls-requires-clause-concrete_askable g c = asks_concrete c.requires.askable c.requires.left_open.components
