-- `place_search::skip` meets its contract, which is the loop's invariant. The measure is what is linked from the next entry on.
use Rattle.record_links.specs.Rows.{chain}
use Rattle.place_search.specs.Seeking.{Skips}
use Rattle.place_search.proofs.skip.Given as goal

abbrev pub invariant-loop-range : goal.invariant-loop-range
invariant-loop-range l = Skips l.s l.range.start l.range.end l.fn.from.low l.fn.from.next l.to.low l.to.next

abbrev pub decreases-loop-range : goal.decreases-loop-range
decreases-loop-range l = chain 65536 l.s l.to.next
