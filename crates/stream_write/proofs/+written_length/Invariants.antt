-- `stream_write::written_length` meets its contract: an element or an entry has fewer nodes than what holds it, so the nodes that are
-- linked below the record fall at each call.
use Rattle.record_links.specs.Rows.{chain, nodes_at}
use Rattle.stream_write.proofs.Writing.{Writing}
use Rattle.stream_write.proofs.Measuring.{LengthOf}
use Rattle.stream_write.proofs.+written_length.Given as goal

abbrev pub decreases-written_length : goal.decreases-written_length
decreases-written_length l = nodes_at l.s.now l.q

abbrev pub invariant-loop-p : goal.invariant-loop-p
invariant-loop-p l = Writing (LengthOf l.initial.n l.n) l.s l.q l.p l.initial.n 917504

abbrev pub decreases-loop-p : goal.decreases-loop-p
decreases-loop-p l = chain 65536 l.s l.p
