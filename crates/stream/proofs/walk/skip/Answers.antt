-- `skip` meets its contract: the loop keeps that if the node at `from` reads, so does what is still to be read, and fewer bytes are left at each turn.
use borrow.Author.Rules.{rules}
use Rattle.std.specs.Prelude.{Some, None}
use Rattle.stream.proofs.Skipping.{Skips_on, skip_start, skip_stop, skip_turn}
use Rattle.stream.proofs.walk.skip.Goals as goal
use Rattle.stream.proofs.walk.skip.Goals.{In_ok-past}

-- what the turn comes to
turn : (c : In_ok-past) → Skips_on c.args.s.now c.args.from c.in_ok-node.field-0.end c.loop-node.owed (Some c.in_ok-past.field-0)
turn c = skip_turn c.args.s.now c.args.from c.loop-node.invariant c.in_ok-node.ensures (Some c.in_ok-past.field-0) c.in_ok-past.ensures

pub loop-node-init : goal.loop-node-init
loop-node-init c = search (skip_start, rules)

pub returns-in_err-node : goal.returns-in_err-node
returns-in_err-node c = rw c.from_residual.ensures (skip_stop c.args.s.now c.args.from c.loop-node.invariant c.in_err-node.ensures)

pub returns-in_err-past : goal.returns-in_err-past
returns-in_err-past c =
    rw c.from_residual-in_err-past.ensures
    (skip_turn c.args.s.now c.args.from c.loop-node.invariant c.in_ok-node.ensures None c.in_err-past.ensures)

pub loop-node-preserved-in-Element : goal.loop-node-preserved-in-Element
loop-node-preserved-in-Element c = rw c.in-Element.is at (turn (goal.at.loop-node-preserved-in-Element c).In_ok-past)

pub loop-node-preserved : goal.loop-node-preserved
loop-node-preserved c = rw c.in-Entry.is at (turn (goal.at.loop-node-preserved c).In_ok-past)

pub returns-in-End : goal.returns-in-End
returns-in-End c = rw c.in-End.is at (turn (goal.at.returns-in-End c).In_ok-past)
