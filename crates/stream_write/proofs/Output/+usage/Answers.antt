-- `Output::usage` meets its contract: the own part, then the element, or each turn an entry behind its offset; the nodes that are
-- linked below the record fall at each call.
use borrow.Author.Rules.{rules}
use Rattle.stream_write.proofs.Writing.{element_fewer, entry_fewer, entry_inside, writing_less}
use Rattle.stream_write.proofs.Storing.{own_fitting, put_one, element_fitting, put_array, put_start, offset_fits, entry_fitting, put_next, put_end}
use Rattle.stream_write.proofs.Output.+usage.Goals as goal

pub own-requires : goal.own-requires
own-requires t c = own_fitting _ _ _ _ c.requires

pub usage-requires : goal.usage-requires
usage-requires t c = (search (element_fewer, rules), element_fitting c.kind.ensures c.in-DynOffsetBase.is c.child.ensures.0 c.own.ensures c.requires)

pub returns-in-DynOffsetBase : goal.returns-in-DynOffsetBase
returns-in-DynOffsetBase t c = put_array c.kind.ensures c.in-DynOffsetBase.is c.child.ensures.0 c.own.ensures c.usage.ensures

pub loop-i-init : goal.loop-i-init
loop-i-init t c = put_start c.requires c.kind.ensures c.in-OffsetBase.is c.child-i.ensures.0 c.own.ensures

pub offset-requires : goal.offset-requires
offset-requires t c = entry_inside _ _ _ _ _ c.loop-i.invariant c.loop-i-test.true

pub number-requires : goal.number-requires
number-requires t c = offset_fits _ _ c.loop-i.invariant c.loop-i-test.true

pub usage-requires-in-loop-i : goal.usage-requires-in-loop-i
usage-requires-in-loop-i t c = (
  entry_fewer _ _ _ _ _ c.loop-i.invariant c.loop-i-test.true _ c.decreases,
  entry_fitting _ _ c.loop-i.invariant c.loop-i-test.true _ c.number.ensures,
)

pub next-i-requires : goal.next-i-requires
next-i-requires t c = entry_inside _ _ _ _ _ c.loop-i.invariant c.loop-i-test.true

pub loop-i-smaller : goal.loop-i-smaller
loop-i-smaller t c = writing_less _ _ _ _ _ c.loop-i.invariant c.loop-i-test.true _ c.next-i.ensures.0

pub loop-i-preserved : goal.loop-i-preserved
loop-i-preserved t c = put_next _ _ c.loop-i.invariant c.loop-i-test.true _ c.number.ensures c.offset.ensures c.usage-in-loop-i.ensures c.next-i.ensures.0

pub returns-after-loop-i : goal.returns-after-loop-i
returns-after-loop-i t c = put_end _ _ c.own.ensures c.loop-i.invariant c.loop-i-test.false

pub returns-in_default : goal.returns-in_default
returns-in_default t c = put_one c.kind.ensures c.in_default.not-DynOffsetBase c.in_default.not-OffsetBase c.own.ensures
