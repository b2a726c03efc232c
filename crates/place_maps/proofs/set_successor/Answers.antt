-- `place_maps::set_successor` meets its contract. It writes one record, the map's or the entry's.
use borrow.Author.Rules.{rules}
use Rattle.place_maps.proofs.Linking.{linked_first, linked_behind}
use Rattle.place_maps.proofs.set_successor.Goals as goal

pub returns-then-low-eq0 : goal.returns-then-low-eq0
returns-then-low-eq0 c = search (linked_first, rules)

pub returns-else-low-eq0 : goal.returns-else-low-eq0
returns-else-low-eq0 c = search (linked_behind, rules)
