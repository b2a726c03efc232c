-- `place_loaded` meets its contract: the usages that were read are loaded, and what comes of them is given back.
use mathlib.Core.Path.{refl, sym, ◌∙◌}
use borrow.Author.Rules.{rules}
use Rattle.place_states.specs.Calls.{placing}
use Rattle.calls.proofs.Pairs.{near, placing_few, same_buffer, reachable, given}
use Rattle.calls.proofs.with_starts.place_loaded.Goals as goal

pub merge_mem_at-merged-requires-clause-near : goal.merge_mem_at-merged-requires-clause-near
merge_mem_at-merged-requires-clause-near c = near c.requires c.load_both.auto.work c.load_both.ensures

pub finish-requires : goal.finish-requires
finish-requires c =
    reachable c.requires c.load_both.auto.work c.load_both.ensures (placing c.args.offset) (placing_few c.args.offset) refl c.merge_mem_at-merged.ensures

pub returns : goal.returns
returns c =
    let z = placing c.args.offset in
    let same = same_buffer c.requires c.load_both.auto.work c.load_both.ensures z (placing_few c.args.offset) refl c.merge_mem_at-merged.ensures in
    let lent = sym (c.finish.ensures.kept.name ∙ same.name) in
    given c.requires c.load_both.auto.work c.load_both.ensures z (placing_few c.args.offset) refl c.merge_mem_at-merged.ensures
    same.size (search rules) c.finish.ensures
