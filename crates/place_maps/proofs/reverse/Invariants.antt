-- `place_maps::reverse` meets its contract. The loop keeps what `Reverses` says, and one entry less is left in each turn.
use Rattle.record_links.specs.Rows.{chain}
use Rattle.place_maps.proofs.Reversing.{Reverses}
use Rattle.place_maps.proofs.reverse.Given as goal

abbrev pub invariant-loop-p : goal.invariant-loop-p
invariant-loop-p l = Reverses l.initial.s l.q l.end l.behind l.s l.p l.last

abbrev pub decreases-loop-p : goal.decreases-loop-p
decreases-loop-p l = chain 65536 l.s l.p
