-- `soundness::past` meets its contract. The record counts the usage's nodes.
use Rattle.soundness.proofs.Entries.{room, counted}
use Rattle.soundness.proofs.past.Goals as goal

pub nodes-requires : goal.nodes-requires
nodes-requires c = room c.requires

pub returns : goal.returns
returns c = counted c.requires c.nodes.result c.nodes.ensures.0
