-- An Unused b leaves a as it is.
use Rattle.place_rules.proofs.Begun.{right_of_kind, begins_unused}
use Rattle.place_rules.proofs.begin_with.Goals as goal

pub returns-in-Unused : goal.returns-in-Unused
returns-in-Unused c = begins_unused _ _ _ _ _ _ _ (right_of_kind c.requires _ c.in-Unused.ensures) c.finished.ensures
