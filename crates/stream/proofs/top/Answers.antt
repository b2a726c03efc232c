-- `top` meets its contract: the first byte says what follows.
use mathlib.Core.Path.{sym, ◌∙◌}
use native.Mathlib.Omega.{arith}
use Rattle.stream.proofs.Firsts.{nothing_first, top_opaque, top_node, top_other}
use Rattle.stream.proofs.top.Goals as goal

pub returns-in-8 : goal.returns-in-8
returns-in-8 c = rw (top_opaque c.args.s.now (omega arith)) c.opaque.ensures

pub returns-in-9 : goal.returns-in-9
returns-in-9 c = c.alone.ensures ∙ sym (top_node c.args.s.now (omega arith) (omega arith))

pub returns-in_default : goal.returns-in_default
returns-in_default c =
    let s = c.args.s.now in
    let first = nothing_first s (omega arith) in
    rw (top_other s (omega arith) (λ low high. omega arith))

pub returns-in_default-2 : goal.returns-in_default-2
returns-in_default-2 c = rw (top_other c.args.s.now (λ e. omega arith) (λ low high. omega arith))

pub returns-in_default-3 : goal.returns-in_default-3
returns-in_default-3 c = rw (top_other c.args.s.now (λ e. omega arith) (λ low high. omega arith))
