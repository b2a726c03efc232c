-- `place` meets its contract: the refusals come in their order, and what is placed are the usages that were read.
use mathlib.Core.Path.{refl, ◌∙◌}
use lib.ListN.{length}
use Rattle.layout.proofs.Uses.{holds_whole}
use Rattle.call_inputs.specs.Inputs.{Good}
use Rattle.calls.proofs.Memories.{told_memory}
use Rattle.calls.proofs.Pairs.{pair_ready}
use Rattle.calls.proofs.Calling.{call_cleared}
use Rattle.calls.proofs.Lent.{met_lent}
use Rattle.calls.proofs.Placing.{place_is, place_pair, place_gives}
use Rattle.calls.proofs.with_starts.place.Goals as goal
use Rattle.calls.proofs.with_starts.place.Goals.{In-Ok}

good : (c : In-Ok)
    → Good c.args.table.now (length c.args.work.now) (told_memory c.args.first.now) (told_memory c.args.second.now) c.accept.new.starts c.in-Ok.nodes
good c = (met_lent c.memory-a.ensures c.memory-b.ensures (c.memory-b.auto.window ∙ c.memory-a.auto.window) c.in-Ok.ensures).good

pub returns-in-Err : goal.returns-in-Err
returns-in-Err c =
    let a = c.args in
    let met = met_lent c.memory-a.ensures c.memory-b.ensures (c.memory-b.auto.window ∙ c.memory-a.auto.window) c.in-Err.ensures in
    call_cleared (length a.rep.now) (place_is a.choices a.table.now (length a.work.now) a.first.now a.offset a.second.now a.output.now (length a.rep.now)) met c.cleared.ensures.same
    c.cleared.ensures.refused

pub place_loaded-requires : goal.place_loaded-requires
place_loaded-requires c =
    let a = c.args in
    let is = good (goal.at.place_loaded-requires c).In-Ok in
    let pair = place_pair a.choices a.table.now (length a.work.now) a.first.now a.offset a.second.now is (λ k. (c.type_inv.first k).fits) (λ k. (c.type_inv.second k).fits) in
    pair_ready is (holds_whole refl refl) pair c.area.ensures c.memory-b.new.window (c.memory-b.auto.window ∙ c.memory-a.auto.window)

pub returns : goal.returns
returns c =
    let a = c.args in
    place_gives a.choices a.table.now (length a.work.now) a.first.now a.offset a.second.now (good (goal.at.returns c).In-Ok)
    (λ k. (c.type_inv.first k).fits) (λ k. (c.type_inv.second k).fits) (holds_whole refl refl) a.output.now a.rep.now c.place_loaded.ensures
