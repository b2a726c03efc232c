-- `place_maps::begin_join` meets its contract. Two returns refuse; the third leaves b standing, and with it the goal will be reached.
use borrow.Author.Rules.{rules}
use Rattle.place_maps.proofs.Beginning.{listed, run_of, refused_end, refused_entry, begun_starts}
use Rattle.place_maps.proofs.begin_join.Goals as goal

pub returns-then-past32 : goal.returns-then-past32
returns-then-past32 c = search (refused_end, rules)

pub overlapping-requires : goal.overlapping-requires
overlapping-requires c = search (listed, rules)

pub returns-in-Err : goal.returns-in-Err
returns-in-Err c = search (refused_entry, rules)

pub reverse-rest-requires : goal.reverse-rest-requires
reverse-rest-requires c = search (run_of, rules)

pub returns : goal.returns
returns c = search (begun_starts, rules)
