-- `stream_write::entries` meets its contract: it goes from entry to entry, and stops where the links end.
use Rattle.record_links.specs.Rows.{chain}
use Rattle.stream_write.proofs.Counting.{Counting}
use Rattle.stream_write.proofs.entries.Given as goal

abbrev pub invariant-loop-p : goal.invariant-loop-p
invariant-loop-p l = Counting l.s l.q l.p l.k

abbrev pub decreases-loop-p : goal.decreases-loop-p
decreases-loop-p l = chain 65536 l.s l.p
