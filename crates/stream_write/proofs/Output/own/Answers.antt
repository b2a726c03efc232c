-- `Output::own` meets its contract: the parts are those of whichever usage stands at the record.
use Rattle.stream_write.proofs.OwnStored.{own_room, own_stored}
use Rattle.stream_write.proofs.Output.own.Goals as goal

pub head-requires : goal.head-requires
head-requires c = own_room _ _ _ _ _ c.requires c.kind-kind.ensures

pub returns : goal.returns
returns c = own_stored _ _ _ _ _ c.head.ensures c.kind-kind.ensures c.max_size-z.ensures c.written_argument-a.ensures
