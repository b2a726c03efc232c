-- `place_unused::begin_unused` meets its contract. b, with the size that a had, is what rule 3 gives.
use Rattle.place_unused.proofs.Resizing.{resized}
use Rattle.place_unused.proofs.begin_unused.Goals as goal

pub returns : goal.returns
returns c =
    resized _ _ _ _ _ _ c.requires.unused c.max_size-z.ensures c.put_size.auto.s c.put_size.ensures c.finished.ensures
