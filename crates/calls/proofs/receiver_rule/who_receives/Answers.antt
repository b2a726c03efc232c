-- `who_receives` meets its contract: the refusals come in their order, and the receiver rule asks the two own parts.
use native.Mathlib.Omega.{arith}
use Rattle.calls.proofs.Receivers.{many_told, few_told, bad_first, bad_second, too_many, received}
use Rattle.calls.proofs.receiver_rule.who_receives.Goals as goal

pub returns-in_err-a : goal.returns-in_err-a
returns-in_err-a c = let a = c.args in rw (c.from_residual.ensures, bad_first a.choices a.first.now a.second.now c.in_err-a.ensures)

pub returns-in_err-b : goal.returns-in_err-b
returns-in_err-b c =
    let a = c.args in
    rw (c.from_residual-in_err-b.ensures, bad_second a.choices a.first.now a.second.now c.in_ok-a.ensures c.in_err-b.ensures)

pub returns-in_err-ok : goal.returns-in_err-ok
returns-in_err-ok c =
    rw (
      c.from_residual-in_err-ok.ensures,
      too_many _ _ _ c.in_ok-a.ensures c.in_ok-b.ensures (omega (arith, many_told c.few_nodes.result c.few_nodes.ensures c.in_err-ok.ensures.variant)),
    )

pub returns-then-first_receives : goal.returns-then-first_receives
returns-then-first_receives c =
    rw
    (received _ _ _ c.in_ok-a.ensures c.in_ok-b.ensures (omega (arith, few_told c.few_nodes.result c.few_nodes.ensures c.in_ok-ok.ensures.variant))
    (rw c.if-first_receives.true at c.first_receives.ensures))

pub returns : goal.returns
returns c =
    rw
    (received _ _ _ c.in_ok-a.ensures c.in_ok-b.ensures (omega (arith, few_told c.few_nodes.result c.few_nodes.ensures c.in_ok-ok.ensures.variant))
    (rw c.if-first_receives.false at c.first_receives.ensures))
