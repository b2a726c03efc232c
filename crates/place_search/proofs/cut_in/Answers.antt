-- `place_search::cut_in` meets its contract. At most 511 entries are linked, so 512 rows are not all filled.
use Rattle.std.proofs.Common.{◌∙◌, arith}
use Rattle.std.proofs.lemmas.List.{length-replicate}
use Rattle.place_search.proofs.Filling.{fill_start, fill_within, fill_inside, fill_small, fill_more, cuts}
use Rattle.place_search.proofs.LastEnding.{top_front}
use borrow.Author.Rules.{rules}
use Rattle.place_search.proofs.cut_in.Goals as goal

pub loop-k-init : goal.loop-k-init
loop-k-init g c = fill_start c.args.range.end (length-replicate _ _) c.requires.linked

pub starts_before-requires : goal.starts_before-requires
starts_before-requires g c = search (fill_within, rules)

pub returns-then-not-starts_before-clause-cuts : goal.returns-then-not-starts_before-clause-cuts
returns-then-not-starts_before-clause-cuts g c =
    let fill = c.loop-k.invariant in
    let rows = fill.long in
    let low = top_front c.loop-k.k c.loop-k.t c.args.range.start (omega arith) in
    cuts fill c.starts_before.ensures c.if-not-starts_before.true (c.from.ensures ∙ c.last_ending_by.ensures ∙ low)

pub at-requires : goal.at-requires
at-requires g c = (search (fill_inside, rules), search (fill_small, rules))

pub next-p-requires : goal.next-p-requires
next-p-requires g c = search (fill_inside, rules)

pub loop-k-preserved : goal.loop-k-preserved
loop-k-preserved g c = search (fill_more, rules)

pub returns-clause-cuts : goal.returns-clause-cuts
returns-clause-cuts g c = tt
