-- `stream_write::written_length` meets its contract: an element or an entry has fewer nodes than what holds it, so the nodes that are
-- linked below the record fall at each call.
use native.Mathlib.Omega.{arith}
use borrow.Author.Rules.{rules}
use Rattle.stream_write.proofs.Writing.{element_readable, element_fewer, entry_readable, entry_fewer, entry_inside, writing_less}
use Rattle.stream_write.proofs.Measuring.{length_one, length_array, array_short, length_start, length_short, length_more, length_end}
use Rattle.stream_write.proofs.+written_length.Goals as goal

pub written_length-requires : goal.written_length-requires
written_length-requires t c = (search (element_fewer, rules), search (element_readable, rules))

pub overflow_add-result : goal.overflow_add-result
overflow_add-result t c = omega (arith, array_short _ _ _ _ _ _ c.kind-kind.ensures c.in-DynOffsetBase.is c.child.ensures.0 c.own_width-n.ensures c.written_length.ensures c.requires)

pub returns-in-DynOffsetBase : goal.returns-in-DynOffsetBase
returns-in-DynOffsetBase t c = search (length_array, rules)

pub loop-p-init : goal.loop-p-init
loop-p-init t c = search (length_start, rules)

pub written_length-requires-in-loop-p : goal.written_length-requires-in-loop-p
written_length-requires-in-loop-p t c = (search (entry_fewer, rules), search (entry_readable, rules))

pub overflow_add-n : goal.overflow_add-n
overflow_add-n t c = omega (arith, length_short _ _ _ _ _ _ c.loop-p.invariant c.loop-p-test.true c.written_length-in-loop-p.ensures)

pub overflow_add-n-in-loop-p : goal.overflow_add-n-in-loop-p
overflow_add-n-in-loop-p t c = omega (arith, length_short _ _ _ _ _ _ c.loop-p.invariant c.loop-p-test.true c.written_length-in-loop-p.ensures)

pub next-p-requires : goal.next-p-requires
next-p-requires t c = search (entry_inside, rules)

pub loop-p-smaller : goal.loop-p-smaller
loop-p-smaller t c = search (writing_less, rules)

pub loop-p-preserved : goal.loop-p-preserved
loop-p-preserved t c = search (length_more, rules)

pub returns-after-loop-p : goal.returns-after-loop-p
returns-after-loop-p t c = search (length_end, rules)

pub returns-in_default : goal.returns-in_default
returns-in_default t c = search (length_one, rules)
