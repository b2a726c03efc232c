-- `place_arrays::next_element` meets its contract. The array's link names what its element has become.
use Rattle.std.proofs.Common.{rules}
use Rattle.place_arrays.proofs.Wrapping.{root_inside, element_small, wrapped}
use Rattle.place_arrays.proofs.next_element.Goals as goal

pub put_child-requires : goal.put_child-requires
put_child-requires c = (search (root_inside, rules), search (element_small, rules))

pub returns : goal.returns
returns c = search (wrapped, rules)
