-- `soundness::own` meets its contract. Each answer is that of the usages of the record's kind.
use Rattle.soundness.proofs.Entries.{room}
use Rattle.soundness.proofs.Owning.{map_row, array_room, own_unused, own_empty, own_map, own_array, own_leaf}
use borrow.Author.Rules.{rules}
use Rattle.soundness.proofs.own.Goals as goal

pub max_size-z-requires : goal.max_size-z-requires
max_size-z-requires c = search (room, rules)

pub kind-k-requires : goal.kind-k-requires
kind-k-requires c = search (room, rules)

pub chained-requires : goal.chained-requires
chained-requires c = search (map_row, rules)

pub argument-requires : goal.argument-requires
argument-requires c = search (room, rules)

pub max_size-requires : goal.max_size-requires
max_size-requires c = search (array_room, rules)

pub returns-then-eq : goal.returns-then-eq
returns-then-eq c = search (own_unused, rules)

pub returns-else-has : goal.returns-else-has
returns-else-has c = search (own_empty, rules)

pub returns-in-OffsetBase : goal.returns-in-OffsetBase
returns-in-OffsetBase c = search (own_map, rules)

pub returns-in-DynOffsetBase : goal.returns-in-DynOffsetBase
returns-in-DynOffsetBase c = search (own_array, rules)

pub returns-in_default : goal.returns-in_default
returns-in_default c = search (own_leaf, rules)
