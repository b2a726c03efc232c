-- d is tested first, as in the definition, and then the kind.
use Rattle.std.proofs.Common.{rules}
use Rattle.place_leaf.proofs.Typing.{types_leaf, types_none}
use Rattle.place_leaf.proofs.type_at.Goals as goal

pub returns-in-StrictlyTyped : goal.returns-in-StrictlyTyped
returns-in-StrictlyTyped c = search (types_leaf, rules)

pub returns-in-Unused : goal.returns-in-Unused
returns-in-Unused c = search (types_none, rules)
