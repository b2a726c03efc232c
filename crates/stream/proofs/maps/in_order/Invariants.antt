-- `in_order` meets its contract: the loop keeps that what is owed in order is what is left of the open maps, if it reads in any order, and
-- fewer entries are left at each turn.
use Rattle.stream.specs.Walk.{total}
use Rattle.stream.specs.Window.{levels, Held}
use Rattle.stream.proofs.Ordered.{InOrderSoFar}
use Rattle.stream.proofs.maps.in_order.Given as goal

abbrev pub invariant-loop-around : goal.invariant-loop-around
invariant-loop-around l = Held l.around l.window × InOrderSoFar l.s l.from (levels l.initial.around l.window) l.at (levels l.around l.window)

abbrev pub decreases-loop-around : goal.decreases-loop-around
decreases-loop-around l = total (levels l.around l.window)
