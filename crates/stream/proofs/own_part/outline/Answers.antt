-- `outline` meets its contract: there are no commands but those that have an arm.
use native.Mathlib.Omega.{arith}
use Rattle.stream.proofs.Parts.{head_none, head_high}
use Rattle.stream.proofs.own_part.outline.Goals as goal

pub returns-then-s-at : goal.returns-then-s-at
returns-then-s-at c = let a = c.args in head_none a.s.now a.at (omega arith)

pub returns-in_default-command : goal.returns-in_default-command
returns-in_default-command c =
    let a = c.args in
    head_high a.s.now a.at (omega arith) (omega arith)
