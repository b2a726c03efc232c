-- `entered` meets its contract: an entry is the first of a map that was just opened, the next of the innermost, or of one that is not kept.
use mathlib.Core.Path.{refl, sym}
use native.Mathlib.Omega.{arith}
use Rattle.qptr.specs.Values.{part_of}
use Rattle.stream.proofs.Parts.{count_few}
use Rattle.stream.proofs.Entering.{enter_outside, enter_next, enter_one, enter_lost, enter_map}
use Rattle.stream.proofs.maps.entered.Goals as goal

pub returns-then-maps-eq0 : goal.returns-then-maps-eq0
returns-then-maps-eq0 c =
    let a = c.args in
    let pre = c.requires in
    enter_outside a.s.now a.at (part_of a.node) a.end pre.0.reads pre.1 pre.2 c.get32-offset.ensures a.maps a.window.now pre.3
    (omega (arith, c.entries-count.ensures)) c.if-maps-eq0.true

pub returns-then-count-eq0 : goal.returns-then-count-eq0
returns-then-count-eq0 c =
    let a = c.args in
    let pre = c.requires in
    enter_next a.s.now a.at (part_of a.node) a.end pre.0.reads pre.1 pre.2 c.get32-offset.ensures a.maps a.window.now
    (omega (arith, c.entries-count.ensures)) c.follow.result c.follow.ensures

pub returns-then-count-eq1 : goal.returns-then-count-eq1
returns-then-count-eq1 c =
    let a = c.args in
    let pre = c.requires in
    enter_one a.s.now a.at (part_of a.node) a.end pre.0.reads pre.1 pre.2 c.get32-offset.ensures a.maps a.window.now pre.3
    (omega (arith, c.entries-count.ensures))

pub returns-in_err-around : goal.returns-in_err-around
returns-in_err-around c =
    let a = c.args in
    let pre = c.requires in
    rw c.from_residual.ensures
    (enter_lost a.s.now a.at (part_of a.node) a.end pre.0.reads pre.1 pre.2 c.get32-offset.ensures a.maps a.window.now c.in_err-around.ensures)

pub returns : goal.returns
returns c =
    let a = c.args in
    let pre = c.requires in
    enter_map a.s.now a.at (part_of a.node) a.end pre.0.reads pre.1 pre.2 c.get32-offset.ensures a.maps a.window.now
    c.in_ok-around.ensures (sym c.entries-count.ensures) (omega arith)
    (omega (arith, c.entries-count.ensures, count_few a.s.now a.at (λ k. (c.type_inv.s k).fits) pre.0.reads)) _ refl refl refl
