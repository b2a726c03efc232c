-- `Output::usage` meets its contract: the own part, then the element, or each turn an entry behind its offset; the nodes that are
-- linked below the record fall at each call.
use lib.ListN.{length}
use Rattle.record_links.specs.Rows.{chain, nodes_at}
use Rattle.stream_write.proofs.Writing.{Writing}
use Rattle.stream_write.proofs.Storing.{PutFrom}
use Rattle.stream_write.proofs.Output.+usage.Given as goal

abbrev pub decreases-usage : goal.decreases-usage
decreases-usage l = nodes_at l.s.now l.q

abbrev pub invariant-loop-i : goal.invariant-loop-i
invariant-loop-i l = Writing (PutFrom l.initial.self l.self) l.s l.q l.i l.initial.self.at (length l.initial.self.buffer.now)

abbrev pub decreases-loop-i : goal.decreases-loop-i
decreases-loop-i l = chain 65536 l.s l.i
