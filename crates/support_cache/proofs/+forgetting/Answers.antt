-- What is below a node has fewer nodes than it: the measure is their number, and a node comes before its entries.
use Rattle.std.proofs.Common.{◌∙◌, arith}
use Rattle.support_cache.proofs.Staying.{unchanged_both, next_stays, usage_after}
use Rattle.qptr.proofs.Nodes.{map_command, array_command}
use Rattle.support_cache.proofs.Linked.{nodes_stay, element_usage, element_smaller, first_linked, next_linked, chain_falls, entry_usage, entry_smaller}
use Rattle.support_cache.proofs.Forgetting.{marked_usage, marked_nodes, clearing_none, clearing_one, clearing_all}
use Rattle.support_cache.proofs.+forgetting.Goals as goal

pub forget_entries-loop-e-init : goal.forget_entries-loop-e-init
forget_entries-loop-e-init t c =
    record { linked = first_linked c.requires.map.0 c.requires.usage_at c.child-e.ensures; clearing = clearing_none c.child-e.ensures }

pub forget_entries-forget_node-requires : goal.forget_entries-forget_node-requires
forget_entries-forget_node-requires t c =
    let I = c.loop-e.invariant in
    let w = entry_usage I.linked c.loop-e-test.true in
    (omega (arith, nodes_stay I.clearing.records w, entry_smaller I.linked c.loop-e-test.true), usage_after I.clearing.records w)

pub forget_entries-next-e-requires : goal.forget_entries-next-e-requires
forget_entries-next-e-requires t c =
    let I = c.loop-e.invariant in
    let U = unchanged_both I.clearing.records c.forget_node.ensures.records in
    omega (arith, (entry_usage I.linked c.loop-e-test.true).within, U.len)

pub forget_entries-loop-e-smaller : goal.forget_entries-loop-e-smaller
forget_entries-loop-e-smaller t c =
    let I = c.loop-e.invariant in
    let U = unchanged_both I.clearing.records c.forget_node.ensures.records in
    chain_falls I.linked c.loop-e-test.true (c.next-e.ensures.0 ∙ next_stays U c.loop-e.e)

pub forget_entries-loop-e-preserved : goal.forget_entries-loop-e-preserved
forget_entries-loop-e-preserved t c =
    let I = c.loop-e.invariant in
    let U = unchanged_both I.clearing.records c.forget_node.ensures.records in
    record {
      linked = next_linked I.linked c.loop-e-test.true (c.next-e.ensures.0 ∙ next_stays U c.loop-e.e) c.next-e.ensures.1;
      clearing = clearing_one I.clearing c.forget_node.ensures c.next-e.ensures;
    }

pub forget_entries-returns : goal.forget_entries-returns
forget_entries-returns t c = clearing_all c.requires.map.0 c.requires.map.1 c.loop-e.invariant.clearing c.loop-e-test.false

pub forget_node-forget_entries-requires : goal.forget_node-forget_entries-requires
forget_node-forget_entries-requires t c =
    let l = c.put_mark.auto.s in
    let w = marked_usage c.requires c.put_mark.ensures l in
    (omega (arith, marked_nodes c.requires c.put_mark.ensures l), (w, (search map_command, c.put_mark.ensures.tag)))

pub forget_node-forget_element-requires : goal.forget_node-forget_element-requires
forget_node-forget_element-requires t c =
    let l = c.put_mark.auto.s in
    let w = marked_usage c.requires c.put_mark.ensures l in
    (omega (arith, marked_nodes c.requires c.put_mark.ensures l), (w, (search array_command, c.put_mark.ensures.tag)))

pub forget_element-forget_node-requires : goal.forget_element-forget_node-requires
forget_element-forget_node-requires t c =
    let w = c.requires.usage_at in
    let k = c.requires.array.0 in
    (omega (arith, element_smaller k w c.child-element.ensures), element_usage k w c.child-element.ensures)
