-- `stream_load::link` meets its contract: its kind says what lies below a root, and each of the four ends ties it.
use native.Mathlib.Omega.{arith}
use Rattle.stream_load.proofs.Rooting.{none_tied, map_tied, element_inside, element_few, few_nodes, array_tied, leaf_tied}
use Rattle.stream_load.proofs.link.Goals as goal

pub returns-then-k-eq0 : goal.returns-then-k-eq0
returns-then-k-eq0 c = none_tied _ _ c.kind.ensures c.in-OffsetBase.is c.argument-k.ensures c.if-k-eq0.true

pub returns-else-k-eq0 : goal.returns-else-k-eq0
returns-else-k-eq0 c =
    map_tied _ _ c.kind.ensures c.in-OffsetBase.is c.argument-k.ensures _ _ _ _ c.if-k-eq0.false c.link_entries-end.ensures
    c.put_child.ensures c.put_argument.ensures c.put_nodes.ensures

pub nodes-n-requires : goal.nodes-n-requires
nodes-n-requires c = element_inside _ _ c.kind.ensures c.in-DynOffsetBase.is c.requires

pub put_child-requires-in-DynOffsetBase : goal.put_child-requires-in-DynOffsetBase
put_child-requires-in-DynOffsetBase c =
    let few = element_few _ _ c.kind.ensures c.in-DynOffsetBase.is c.requires in
    (omega (arith, element_inside _ _ c.kind.ensures c.in-DynOffsetBase.is c.requires), few)

pub put_nodes-requires-in-DynOffsetBase : goal.put_nodes-requires-in-DynOffsetBase
put_nodes-requires-in-DynOffsetBase c =
    let few = few_nodes _ _ c.kind.ensures c.in-DynOffsetBase.is c.requires c.nodes-n.ensures.0 in
    (omega (arith, element_inside _ _ c.kind.ensures c.in-DynOffsetBase.is c.requires, c.put_child-in-DynOffsetBase.auto.s), omega (arith, few))

pub returns-in-DynOffsetBase : goal.returns-in-DynOffsetBase
returns-in-DynOffsetBase c =
    array_tied _ _ c.kind.ensures c.in-DynOffsetBase.is _ _ c.nodes-n.ensures.0
    c.put_child-in-DynOffsetBase.ensures c.put_nodes-in-DynOffsetBase.ensures

pub returns-in_default : goal.returns-in_default
returns-in_default c = leaf_tied _ _ c.kind.ensures c.in_default.not-OffsetBase c.in_default.not-DynOffsetBase
