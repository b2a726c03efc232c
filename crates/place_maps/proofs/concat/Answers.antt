-- `place_maps::concat` meets its contract. What follows is linked, and the finger is written.
use Rattle.place_maps.proofs.Linking.{concatenates}
use Rattle.place_maps.proofs.concat.Goals as goal

pub returns : goal.returns
returns c =
    concatenates _ _ _ _ _ _ c.set_successor.auto.s c.put_argument.auto.s c.set_successor.ensures c.put_argument.ensures
