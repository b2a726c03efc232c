-- `merge_loaded` meets its contract: the usages that were read are loaded, and what comes of them is given back.
use mathlib.Core.Path.{refl, sym, ◌∙◌}
use borrow.Author.Rules.{rules}
use Rattle.place_states.specs.Calls.{merging}
use Rattle.calls.proofs.Pairs.{near, merging_few, same_buffer, reachable, given}
use Rattle.calls.proofs.with_starts.merge_loaded.Goals as goal

pub merge_mem-merged-requires-clause-near : goal.merge_mem-merged-requires-clause-near
merge_mem-merged-requires-clause-near c = near c.requires c.load_both.auto.work c.load_both.ensures

pub finish-requires : goal.finish-requires
finish-requires c =
    reachable c.requires c.load_both.auto.work c.load_both.ensures merging merging_few refl c.merge_mem-merged.ensures

pub returns : goal.returns
returns c =
    let same = same_buffer c.requires c.load_both.auto.work c.load_both.ensures merging merging_few refl c.merge_mem-merged.ensures in
    let lent = sym (c.finish.ensures.kept.name ∙ same.name) in
    given c.requires c.load_both.auto.work c.load_both.ensures merging merging_few refl c.merge_mem-merged.ensures
    same.size (search rules) c.finish.ensures
