-- `place_search::last_ending_by` meets its contract: what is found first from the end is the topmost.
use borrow.Author.Rules.{rules}
use borrow.Author.Tests.{tests}
use Rattle.std.proofs.lemmas.Iterator.Search.{find_from_yields_List}
use Rattle.std.proofs.lemmas.Iterator.Adapters.{YieldsList-from_rev_slice}
use Rattle.place_search.specs.Table.{ends_by}
use Rattle.place_search.proofs.LastEnding.{top_found}
use Rattle.place_search.proofs.last_ending_by.Goals as goal

pub returns : goal.returns
returns c =
    let t = c.args.entries.now in
    let d = c.args.d in
    let f = find_from_yields_List (λ x. ends_by x d) _ _ c.find.result c.find.ensures.ran (YieldsList-from_rev_slice t cc) (λ x b q k. search (rules, tests)) in
    top_found t d c.map_or.result c.find.result f (search rules)
