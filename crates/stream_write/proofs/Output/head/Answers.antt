-- `Output::head` meets its contract: the parts come one behind the other, in as many bytes as the command says.
use Rattle.stream_write.proofs.OwnStored.{size_room, argument_room, head_stored}
use Rattle.stream_write.proofs.Output.head.Goals as goal

pub size-requires : goal.size-requires
size-requires c = size_room _ c.command-c.ensures c.of-row.ensures c.requires c.byte.ensures

pub number-requires : goal.number-requires
number-requires c = argument_room _ c.command-c.ensures c.of-row.ensures c.requires c.byte.ensures _ c.size.ensures

pub returns : goal.returns
returns c = head_stored _ _ _ c.command-c.ensures c.of-row.ensures c.byte.ensures c.size.ensures c.number.ensures
