-- `fold` meets its contract: the refusals come in their order, and the nodes that are folded are the list's. What is promised of sound
-- nodes follows from what the call is defined to give.
use mathlib.Core.Path.{refl}
use lib.ListN.{length}
use Rattle.qptr.specs.Choices.{choices_in}
use Rattle.layout.proofs.Uses.{holds_whole}
use Rattle.call_inputs.specs.Inputs.{Good}
use Rattle.call_inputs.proofs.Accepting.{none_told}
use Rattle.calls.proofs.Calling.{call_cleared}
use Rattle.calls.proofs.Lent.{met_lent}
use Rattle.calls.proofs.Promises.{with_promise}
use Rattle.calls.proofs.FoldCalls.{told_list, fold_is, fold_ready, fold_given}
use Rattle.calls.proofs.with_starts.fold.Goals as goal
use Rattle.calls.proofs.with_starts.fold.Goals.{In-Ok}

good : (c : In-Ok) → Good c.args.table.now (length c.args.work.now) (told_list c.args.list.now) none_told c.accept.new.starts c.in-Ok.field-0
good c = (met_lent c.list-found.ensures refl c.list-found.auto.window c.in-Ok.ensures).good

pub returns-in-Err : goal.returns-in-Err
returns-in-Err c =
    let a = c.args in
    let met = met_lent c.list-found.ensures refl c.list-found.auto.window c.in-Err.ensures in
    let both =
    with_promise (choices_in a.choices) a.table.now (length a.work.now) a.list.now (λ k. (c.type_inv.list k).fits) a.output.now (length a.rep.now)
    (call_cleared (length a.rep.now) (fold_is a.choices a.table.now (length a.work.now) a.list.now a.output.now (length a.rep.now)) met c.cleared.ensures.same c.cleared.ensures.refused) in
    record { gives = both.0; promised = both.1 }

pub fold_loaded-requires : goal.fold_loaded-requires
fold_loaded-requires c =
    let a = c.args in
    fold_ready a.choices a.table.now (length a.work.now) a.list.now (good (goal.at.fold_loaded-requires c).In-Ok) (λ k. (c.type_inv.list k).fits) (holds_whole refl refl)
    c.area.ensures c.list-found.new.window c.list-found.auto.window

pub returns : goal.returns
returns c =
    let a = c.args in
    let both =
    with_promise (choices_in a.choices) a.table.now (length a.work.now) a.list.now (λ k. (c.type_inv.list k).fits) a.output.now (length a.rep.now)
    (fold_given a.choices a.table.now (length a.work.now) a.list.now (good (goal.at.returns c).In-Ok) (λ k. (c.type_inv.list k).fits) (holds_whole refl refl)
    a.output.now a.rep.now c.fold_loaded.ensures) in
    record { gives = both.0; promised = both.1 }
