-- `room` meets its contract: there is room, a level is pushed, or the maps are looked at to their ends.
use mathlib.Core.Path.{refl}
use Rattle.stream.proofs.Entering.{room_pushed, room_in_order}
use Rattle.stream.proofs.maps.room.Goals as goal

pub returns-then-window-maps-ge-LEVEL : goal.returns-then-window-maps-ge-LEVEL
returns-then-window-maps-ge-LEVEL c = let a = c.args in room_pushed a.s.now a.at a.maps a.window.now c.push.ensures

pub returns-then-in_order : goal.returns-then-in_order
returns-then-in_order c =
    let a = c.args in
    room_in_order a.s.now a.at a.maps a.window.now (rw c.if-in_order.true at c.in_order.ensures) refl refl
