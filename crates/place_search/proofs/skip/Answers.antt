-- `place_search::skip` meets its contract, which is the loop's invariant. The measure is what is linked from p on.
use Rattle.place_search.proofs.Skipping.{skip_within, skip_inside, skip_less, skip_more}
use borrow.Author.Rules.{rules}
use Rattle.place_search.proofs.skip.Goals as goal

pub passes-requires : goal.passes-requires
passes-requires c = search (skip_within, rules)

pub past-to-requires : goal.past-to-requires
past-to-requires c = search (skip_inside, rules)

pub loop-range-smaller : goal.loop-range-smaller
loop-range-smaller c = search (skip_less, rules)

pub loop-range-preserved : goal.loop-range-preserved
loop-range-preserved c = search (skip_more, rules)
