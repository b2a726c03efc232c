-- `place_search::any_past` meets its contract. The loop's invariant: none of the entries before p ends past 32 bits. The measure is what is
-- linked from p on.
use Rattle.record_links.specs.Rows.{chain}
use Rattle.place_search.proofs.Pasts.{Passing}
use Rattle.place_search.proofs.any_past.Given as goal

abbrev pub invariant-loop-p : goal.invariant-loop-p
invariant-loop-p l = Passing l.s l.q l.upto l.p

abbrev pub decreases-loop-p : goal.decreases-loop-p
decreases-loop-p l = chain 65536 l.s l.p
