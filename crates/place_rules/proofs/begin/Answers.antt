-- A placing is refused by its sizes, or is what the rule begins.
use Rattle.std.proofs.lemmas.Result.{err_from_is_err_and}
use Rattle.place_rules.proofs.Begun.{began_refused, began_fitting}
use Rattle.place_rules.proofs.begin.Goals as goal

pub returns-in_err-size_refusal : goal.returns-in_err-size_refusal
returns-in_err-size_refusal c =
    let p = err_from_is_err_and c.from_residual.result c.from_residual.ensures.1 in
    rw (p.1, p.2) (began_refused _ _ _ _ _ _ _ _ c.max_size.ensures c.max_size-2.ensures _ c.in_err-size_refusal.ensures)

pub returns : goal.returns
returns c = began_fitting _ _ _ _ _ _ _ _ c.max_size.ensures c.max_size-2.ensures _ _ _ c.requires.near c.in_ok-size_refusal.ensures c.begin_with.ensures
