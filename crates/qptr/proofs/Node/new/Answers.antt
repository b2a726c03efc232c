-- `Node::new` meets its contract: each kind has its constructor, and whatever the operands are, some usage has them.
use Rattle.definitions.specs.Usage.{UNUSED}
use Rattle.qptr.proofs.Nodes.{entries_of_lem}
use Rattle.qptr.proofs.Node.new.Goals as goal

pub returns-in-OffsetBase : goal.returns-in-OffsetBase
returns-in-OffsetBase c =
    let es = entries_of_lem c.args.argument in
    rw c.in-OffsetBase.is (rw es.1 at (c.offset_base.ensures es.0 es.1))

pub returns-in-DynOffsetBase : goal.returns-in-DynOffsetBase
returns-in-DynOffsetBase c = rw c.in-DynOffsetBase.is (c.dyn_offset_base.ensures UNUSED)
