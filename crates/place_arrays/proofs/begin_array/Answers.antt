-- `place_arrays::begin_array` meets its contract. What b does is rule 5's choice, and each way leaves what it gives.
use Rattle.std.proofs.Common.{rules}
use Rattle.place_arrays.proofs.Choosing.{starts_inside, starts_merging, starts_conflict}
use Rattle.place_arrays.proofs.begin_array.Goals as goal

pub returns-in-Inside : goal.returns-in-Inside
returns-in-Inside c = search (starts_inside, rules)

pub returns-in-Elements : goal.returns-in-Elements
returns-in-Elements c = search (starts_merging, rules)

pub returns-in-Apart : goal.returns-in-Apart
returns-in-Apart c = search (starts_conflict, rules)
