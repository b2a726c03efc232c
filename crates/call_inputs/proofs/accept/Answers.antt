-- `accept` meets its contract: the refusals come in their order, and streams that meet none are good.
use native.Mathlib.Omega.{arith}
use Rattle.std.proofs.lemmas.Result.{err_from_is_err_and}
use Rattle.call_inputs.proofs.Meeting.{meets_table, told_as, meets_3, meets_4, meets_5, meets_7, meets_none}
use Rattle.call_inputs.proofs.accept.Goals as goal

pub returns-in_err-types : goal.returns-in_err-types
returns-in_err-types c =
    let p = err_from_is_err_and c.from_residual.result c.from_residual.ensures.1 in
    rw (p.1, p.2) (meets_table c.in_err-types.ensures c.args.a c.args.b)

pub returns-in_err-first : goal.returns-in_err-first
returns-in_err-first c =
    let p = err_from_is_err_and c.from_residual-in_err-first.result c.from_residual-in_err-first.ensures.1 in
    let none = c.in_err-first.ensures.ok_part in
    rw (p.1, p.2, told_as c.args.a c.in_err-first.ensures.value none) (meets_3 c.in_ok-types.ensures.good none)

pub returns-in_err-second : goal.returns-in_err-second
returns-in_err-second c =
    let p = err_from_is_err_and c.from_residual-in_err-second.result c.from_residual-in_err-second.ensures.1 in
    let none = c.in_err-second.ensures.ok_part in
    rw (p.1, p.2, told_as c.args.b c.in_err-second.ensures.value none) (meets_4 c.in_ok-types.ensures.good c.in_ok-first.ensures.ok_part none)

pub returns-in_err-known_types : goal.returns-in_err-known_types
returns-in_err-known_types c =
    let p = err_from_is_err_and c.from_residual-in_err-known_types.result c.from_residual-in_err-known_types.ensures.1 in
    let unknown = c.in_err-known_types.ensures in
    rw (p.1, p.2, unknown.0)
    (meets_5 c.in_ok-types.ensures.good c.in_ok-first.ensures.ok_part c.in_ok-second.ensures.ok_part (omega (arith, c.max.ensures, unknown.1)))

pub returns-in_err-few_nodes : goal.returns-in_err-few_nodes
returns-in_err-few_nodes c =
    let p = err_from_is_err_and c.from_residual-in_err-few_nodes.result c.from_residual-in_err-few_nodes.ensures.1 in
    let many = c.in_err-few_nodes.ensures in
    rw (p.1, p.2, many.0)
    (meets_7 c.in_ok-types.ensures.good c.in_ok-first.ensures.ok_part c.in_ok-second.ensures.ok_part (omega (arith, c.max.ensures, c.in_ok-known_types.ensures))
    (omega (arith, many.1)))

pub returns : goal.returns
returns c =
    meets_none c.in_ok-types.ensures.good c.in_ok-first.ensures.ok_part c.in_ok-second.ensures.ok_part (omega (arith, c.max.ensures, c.in_ok-known_types.ensures))
    (omega (arith, c.in_ok-few_nodes.ensures))
