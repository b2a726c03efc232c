-- `several` meets its contract: the loop keeps that the nodes that are left, with the sums so far, tell what all of them do.
use mathlib.Core.Path.{◌∙◌}
use native.Mathlib.Omega.{arith}
use Rattle.stream.proofs.Listing.{list_stop, list_on, list_end, list_left}
use Rattle.stream.proofs.several.Goals as goal

pub returns-in_err-span : goal.returns-in_err-span
returns-in_err-span c =
    let a = c.args in
    rw c.from_residual.ensures (list_stop a.s.now a.from a.count c.loop.invariant.1 (omega arith) c.in_err-span.ensures)

pub loop-preserved : goal.loop-preserved
loop-preserved c =
    let a = c.args in
    let inv = c.loop.invariant in
    (c.node.auto.window ∙ inv.0, list_on a.s.now a.from a.count inv.1 (omega arith) c.in_ok-span.ensures (c.max-types.ensures))

pub returns-then-at-s : goal.returns-then-at-s
returns-then-at-s c =
    let a = c.args in
    list_end a.s.now a.from a.count c.loop.invariant.1 (omega arith) c.if-at-s.true

pub returns-else-at-s : goal.returns-else-at-s
returns-else-at-s c =
    let a = c.args in
    list_left a.s.now a.from a.count c.loop.invariant.1 (omega arith) c.if-at-s.false
