-- `place_maps::straddle` meets its contract. What it writes is put together.
use Rattle.place_maps.proofs.Ending.{fallen, straddled}
use Rattle.place_maps.proofs.straddle.Goals as goal

pub reverse-head-requires : goal.reverse-head-requires
reverse-head-requires c = fallen _ _ _ _ c.requires.waiting c.requires.rule c.requires.some_left c.next-left.ensures.0

pub returns : goal.returns
returns c =
    straddled c.next-left.ensures.0 c.reverse-head.auto.s c.reverse-head.ensures c.concat.ensures c.straddle.ensures c.finished.ensures
