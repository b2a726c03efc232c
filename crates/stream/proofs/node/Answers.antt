-- `node` meets its contract: the loop keeps that what is still to be read, with what is counted, tells what the node at `from` does, and fewer bytes are left.
use Prim.Native.Nat.{max}
use mathlib.Core.Path.{◌≡◌, refl, ap, ◌∙◌}
use native.Mathlib.Omega.{arith}
use Rattle.qptr.specs.Values.{part_of}
use Rattle.stream.specs.Walk.{own_bound, Owes}
use Rattle.stream.proofs.Counting.{count_start, count_stop, count_element, count_disorder, count_end, count_short}
use Rattle.stream.proofs.node.Goals as goal
use Rattle.stream.proofs.node.Goals.{After-max-types, In-Entry}

types_are : (c : After-max-types) → c.max-types.result ≡ max c.loop-node.types (own_bound (part_of c.in_ok-node.field-0.node))
types_are c = c.max-types.ensures ∙ ap (max _) c.bound.ensures.0

owes : (c : In-Entry) → Owes c.args.s.now (part_of c.in_ok-node.field-0.node) c.in_ok-node.field-0.end c.loop-node.owed c.in-Entry.owing
owes c = rw c.in-Entry.is at c.in_ok-past.ensures

pub loop-node-init : goal.loop-node-init
loop-node-init c = let a = c.args in (refl, count_start a.s.now a.from a.window.now _ c.requires refl refl)

pub returns-in_err-node : goal.returns-in_err-node
returns-in_err-node c =
    let a = c.args in
    rw c.from_residual.ensures (count_stop a.s.now a.from c.loop-node.invariant.1 c.in_err-node.ensures)

pub returns-in_err-past : goal.returns-in_err-past
returns-in_err-past c =
    let a = c.args in
    rw c.from_residual-in_err-past.ensures (count_short a.s.now a.from c.loop-node.invariant.1 c.in_ok-node.ensures c.in_err-past.ensures)

pub loop-node-preserved-in-Element : goal.loop-node-preserved-in-Element
loop-node-preserved-in-Element c =
    let a = c.args in
    let inv = c.loop-node.invariant in
    let bound = c.bound.ensures in
    let types = types_are (goal.at.loop-node-preserved-in-Element c).After-max-types in
    (inv.0, count_element a.s.now a.from inv.1 c.in_ok-node.ensures types (omega arith) (rw c.in-Element.is at c.in_ok-past.ensures))

pub returns-in_err-maps-in-Entry : goal.returns-in_err-maps-in-Entry
returns-in_err-maps-in-Entry c =
    let a = c.args in
    rw c.from_residual-in_err-maps-in-Entry.ensures
    (count_disorder a.s.now a.from c.loop-node.invariant.1 c.in_ok-node.ensures (owes (goal.at.returns-in_err-maps-in-Entry c).In-Entry)
    c.in_err-maps-in-Entry.ensures)

pub returns-in-End : goal.returns-in-End
returns-in-End c =
    let a = c.args in
    let bound = c.bound.ensures in
    let types = types_are (goal.at.returns-in-End c).After-max-types in
    count_end a.s.now a.from c.loop-node.invariant.1 c.in_ok-node.ensures types (omega arith) (rw c.in-End.is at c.in_ok-past.ensures)
