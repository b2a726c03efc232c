-- `admits` meets its contract: only of an array is the argument tested.
use Rattle.stream.proofs.Deciding.{known_array, known_other}
use Rattle.stream.proofs.own_part.admits.Goals as goal

pub returns-in-DynOffsetBase : goal.returns-in-DynOffsetBase
returns-in-DynOffsetBase c = rw c.in-DynOffsetBase.is (known_array c.args.argument)

pub returns-in_default : goal.returns-in_default
returns-in_default c = known_other c.args.kind c.args.argument c.in_default.not-DynOffsetBase
