-- `merge` meets its contract: the refusals come in their order; two Buffers or two Memories are merged as the usages that were read, and
-- of other tops the first stays.
use mathlib.Core.Path.{refl, ◌∙◌}
use lib.ListN.{length}
use Rattle.definitions.proofs.Written.{Bytes}
use Rattle.layout.proofs.Uses.{holds_whole}
use Rattle.call_inputs.specs.Inputs.{Good}
use Rattle.calls.proofs.Pairs.{pair_ready}
use Rattle.calls.proofs.Calling.{call_cleared}
use Rattle.calls.proofs.Lent.{met_lent}
use Rattle.calls.proofs.Merging.{told_top, merge_is, first_some, second_some, opaque_first, merge_opaque, merge_unlike, merge_alike, merge_gives}
use Rattle.calls.proofs.with_starts.merge.Goals as goal
use Rattle.calls.proofs.with_starts.merge.Goals.{In-Ok}

good : (c : In-Ok)
    → Good c.args.table.now (length c.args.work.now) (told_top c.args.first.now) (told_top c.args.second.now) c.accept.new.starts c.in-Ok.nodes
good c = (met_lent c.top-a.ensures c.top-b.ensures (c.top-b.auto.window ∙ c.top-a.auto.window) c.in-Ok.ensures).good

pub returns-in-Err : goal.returns-in-Err
returns-in-Err c =
    let a = c.args in
    let met = met_lent c.top-a.ensures c.top-b.ensures (c.top-b.auto.window ∙ c.top-a.auto.window) c.in-Err.ensures in
    call_cleared (length a.rep.now) (merge_is a.choices a.table.now (length a.work.now) a.first.now a.second.now a.output.now (length a.rep.now)) met c.cleared.ensures.same c.cleared.ensures.refused

pub bounds-first-0 : goal.bounds-first-0
bounds-first-0 c =
    let a = c.args in
    first_some a.choices a.table.now (length a.work.now) a.first.now a.second.now (good (goal.at.bounds-first-0 c).In-Ok)
    (λ k. (c.type_inv.first k).fits) (λ k. (c.type_inv.second k).fits)

pub conflicts-requires : goal.conflicts-requires
conflicts-requires c =
    let a = c.args in
    opaque_first a.choices a.table.now (length a.work.now) a.first.now a.second.now (good (goal.at.conflicts-requires c).In-Ok)
    (λ k. (c.type_inv.first k).fits) (λ k. (c.type_inv.second k).fits) c.if-top-eq-OPAQUE.true

pub returns-then-top-eq-OPAQUE : goal.returns-then-top-eq-OPAQUE
returns-then-top-eq-OPAQUE c =
    let a = c.args in
    merge_opaque a.choices a.table.now (length a.work.now) a.first.now a.second.now (good (goal.at.returns-then-top-eq-OPAQUE c).In-Ok)
    (λ k. (c.type_inv.first k).fits) (λ k. (c.type_inv.second k).fits) c.if-top-eq-OPAQUE.true c.conflicts.ensures a.output.now (length a.rep.now) c.keep.ensures

pub bounds-second-0 : goal.bounds-second-0
bounds-second-0 c =
    let a = c.args in
    second_some a.choices a.table.now (length a.work.now) a.first.now a.second.now (good (goal.at.bounds-second-0 c).In-Ok)
    (λ k. (c.type_inv.first k).fits) (λ k. (c.type_inv.second k).fits)

pub returns-then-top-second : goal.returns-then-top-second
returns-then-top-second c =
    let a = c.args in
    merge_unlike a.choices a.table.now (length a.work.now) a.first.now a.second.now (good (goal.at.returns-then-top-second c).In-Ok)
    (λ k. (c.type_inv.first k).fits) (λ k. (c.type_inv.second k).fits) c.if-top-second.true a.output.now (length a.rep.now) c.keep-then-top-second.ensures

pub merge_loaded-requires : goal.merge_loaded-requires
merge_loaded-requires c =
    let a = c.args in
    let is = good (goal.at.merge_loaded-requires c).In-Ok in
    let merged =
    merge_alike a.choices a.table.now (length a.work.now) a.first.now a.second.now is (λ k. (c.type_inv.first k).fits) (λ k. (c.type_inv.second k).fits)
    c.if-top-eq-OPAQUE.false c.if-top-second.false in
    pair_ready is (holds_whole refl refl) merged.pair c.area.ensures c.top-b.new.window (c.top-b.auto.window ∙ c.top-a.auto.window)

pub returns : goal.returns
returns c =
    let a = c.args in
    let is = good (goal.at.returns c).In-Ok in
    let first : Bytes a.first.now = λ k. (c.type_inv.first k).fits in
    let second : Bytes a.second.now = λ k. (c.type_inv.second k).fits in
    let merged = merge_alike a.choices a.table.now (length a.work.now) a.first.now a.second.now is first second c.if-top-eq-OPAQUE.false c.if-top-second.false in
    merge_gives a.choices a.table.now (length a.work.now) a.first.now a.second.now is first second merged (holds_whole refl refl) a.output.now a.rep.now c.merge_loaded.ensures
