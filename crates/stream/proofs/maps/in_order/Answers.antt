-- `in_order` meets its contract: the loop keeps that what is owed in order is what is left of the open maps, if it reads in any order, and
-- fewer entries are left at each turn.
use native.Mathlib.Omega.{arith}
use Rattle.std.specs.Prelude.{Some}
use Rattle.stream.specs.Walk.{Skips}
use Rattle.stream.specs.Window.{levels, Held, Followed}
use Rattle.stream.proofs.Keeping.{none_left}
use Rattle.stream.proofs.Ordered.{order_lost, order_short, order_falls, settle_next, order_end}
use Rattle.stream.proofs.maps.in_order.Goals as goal

pub returns-in_default : goal.returns-in_default
returns-in_default c =
    let a = c.args in
    order_lost a.s.now a.from (levels a.maps a.window.now) c.loop-around.invariant.1
    (rw c.in_default.is at c.skip.ensures)

pub returns-then-s-next-lt4 : goal.returns-then-s-next-lt4
returns-then-s-next-lt4 c =
    let ends : Skips c.args.s.now c.loop-around.at (Some c.in-Some.next) = rw c.in-Some.is at c.skip.ensures in
    let a = c.args in
    order_short a.s.now a.from (levels a.maps a.window.now) c.loop-around.invariant.1
    ends (omega arith) c.if-s-next-lt4.true

pub returns-in_default-follow : goal.returns-in_default-follow
returns-in_default-follow c =
    let ends : Skips c.args.s.now c.loop-around.at (Some c.in-Some.next) = rw c.in-Some.is at c.skip.ensures in
    let a = c.args in
    let here = ends in
    order_falls a.s.now a.from (levels a.maps a.window.now) c.loop-around.invariant.1
    here (omega arith) c.get32.ensures (rw c.in_default-follow.is at c.follow.ensures)

pub loop-around-preserved : goal.loop-around-preserved
loop-around-preserved c =
    let ends : Skips c.args.s.now c.loop-around.at (Some c.in-Some.next) = rw c.in-Some.is at c.skip.ensures in
    let next : (let w = c.args.window.now in
    let m = c.in-Some-follow.rest in
    Held m w × Followed (levels c.loop-around.around w) c.get32.result (levels m w)) = rw c.in-Some-follow.is at c.follow.ensures in
    let a = c.args in
    let here = ends in (
      next.0,
      settle_next a.s.now a.from (levels a.maps a.window.now) c.loop-around.invariant.1
          here (omega arith) c.get32.ensures next.1,
    )

pub returns : goal.returns
returns c =
    let a = c.args in
    let inv = c.loop-around.invariant in
    order_end a.s.now a.from (levels a.maps a.window.now) inv.1 (none_left _ _ inv.0 (omega arith))
