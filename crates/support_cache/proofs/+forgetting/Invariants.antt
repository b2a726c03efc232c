-- What is below a node has fewer nodes than it: the measure is their number, and a node comes before what is below it.
use Rattle.std.proofs.Common.{◌+◌, ◌*◌}
use Rattle.record_links.specs.Rows.{chain, nodes_at}
use Rattle.support_cache.proofs.Forgetting.{Clearing}
use Rattle.support_cache.proofs.Linked.{Linked}
use Rattle.support_cache.proofs.+forgetting.Given as goal

abbrev pub decreases-forget_entries : goal.decreases-forget_entries
decreases-forget_entries l = nodes_at l.s.now l.q * 2

abbrev pub decreases-forget_element : goal.decreases-forget_element
decreases-forget_element l = nodes_at l.s.now l.q * 2

abbrev pub decreases-forget_node : goal.decreases-forget_node
decreases-forget_node l = nodes_at l.s.now l.q * 2 + 1

abbrev pub invariant-forget_entries-loop-e : goal.invariant-forget_entries-loop-e
invariant-forget_entries-loop-e l = record {
  linked : Linked l.initial.s l.q l.e;
  clearing : Clearing l.initial.s l.s l.q l.e;
}

abbrev pub decreases-forget_entries-loop-e : goal.decreases-forget_entries-loop-e
decreases-forget_entries-loop-e l = chain 65536 l.initial.s l.e
