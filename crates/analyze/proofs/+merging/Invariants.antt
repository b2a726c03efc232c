-- Both call on fewer nodes, or merging on the same: the measure counts the nodes of both sides twice, and merging once more. The loop keeps its goal ahead.
use Rattle.std.proofs.Common.{◌+◌, ◌*◌}
use Rattle.record_links.specs.Rows.{chain, nodes_at}
use Rattle.place_states.specs.States.{turns}
use Rattle.analyze.proofs.Loop.{Loop}
use Rattle.analyze.proofs.+merging.Given as goal

-- the nodes that are linked below two records
abbrev pub decreases-merge_mem : goal.decreases-merge_mem
decreases-merge_mem l = (nodes_at l.s.now l.a + nodes_at l.s.now l.b) * 2 + 1

abbrev pub decreases-merge_mem_at : goal.decreases-merge_mem_at
decreases-merge_mem_at l = (nodes_at l.s.now l.a + nodes_at l.s.now l.b) * 2

abbrev pub invariant-merge_mem_at-turns : goal.invariant-merge_mem_at-turns
invariant-merge_mem_at-turns l = Loop l.setting l.initial.s l.initial.report l.initial.st l.fn.report.at l.a l.s l.report l.st

abbrev pub decreases-merge_mem_at-turns : goal.decreases-merge_mem_at-turns
decreases-merge_mem_at-turns l = chain 65536 l.s l.st.rest * 3 + turns l.st.todo
