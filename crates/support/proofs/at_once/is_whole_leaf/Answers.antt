-- The kinds are a leaf's, or not.
use Rattle.std.proofs.Common.{rules}
use Rattle.support.proofs.Leaves.{leaf_type, no_leaf}
use Rattle.support.proofs.at_once.is_whole_leaf.Goals as goal

pub returns-in-StrictlyTyped : goal.returns-in-StrictlyTyped
returns-in-StrictlyTyped c = search (leaf_type, rules)

pub returns-in-Unused : goal.returns-in-Unused
returns-in-Unused c = search (no_leaf, rules)
