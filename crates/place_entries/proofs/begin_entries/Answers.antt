-- `place_entries::begin_entries` meets its contract. Before the first entry a is the result so far.
use Rattle.std.proofs.Common.{rules}
use Rattle.place_entries.proofs.Starts.{starts}
use Rattle.place_entries.proofs.begin_entries.Goals as goal

pub returns : goal.returns
returns c = search (starts, rules)
