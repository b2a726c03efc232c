-- `list` meets its contract: the first byte and the count say what follows.
use mathlib.Core.Path.{sym, ap, ◌∙◌}
use native.Mathlib.Omega.{arith}
use Rattle.numbers.proofs.Widths.{argument_width_lem}
use Rattle.stream.proofs.Firsts.{nothing_first, list_other, Begun, list_short, list_zero, list_nodes}
use Rattle.stream.proofs.list.Goals as goal
use Rattle.stream.proofs.list.Goals.{After-of-width}

begun : (c : After-of-width) → Begun c.args.s.now c.of-width.result.argument
begun c = record { command = omega arith; width = ap (λ r. r.argument) c.of-width.ensures }

pub returns-in_default : goal.returns-in_default
returns-in_default c = let s = c.args.s.now in rw (list_other s (omega (arith, nothing_first s (omega arith))))

pub returns-in_default-2 : goal.returns-in_default-2
returns-in_default-2 c = rw (list_other c.args.s.now (λ e. omega arith))

pub returns-then-rest-width : goal.returns-then-rest-width
returns-then-rest-width c = rw (list_short (begun (goal.at.returns-then-rest-width c).After-of-width) (omega arith))

pub number-count-requires : goal.number-count-requires
number-count-requires c = (rw (ap (λ r. r.argument) c.of-width.ensures) (argument_width_lem 0x0B), omega arith)

pub returns-then-count-eq0 : goal.returns-then-count-eq0
returns-then-count-eq0 c = rw (list_zero (begun (goal.at.returns-then-count-eq0 c).After-of-width) (omega arith) c.number-count.ensures c.if-count-eq0.true)

pub returns : goal.returns
returns c =
    c.several.ensures
    ∙ sym (list_nodes (begun (goal.at.returns c).After-of-width) (omega arith) c.number-count.ensures c.if-count-eq0.false)
