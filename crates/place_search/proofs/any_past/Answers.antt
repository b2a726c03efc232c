-- `place_search::any_past` meets its contract. The loop's invariant: none of the entries before p ends past 32 bits. The measure is what is
-- linked from p on.
use Rattle.place_search.proofs.Pasts.{pass_start, pass_inside, pass_one, pass_less, pass_more, pass_end}
use borrow.Author.Rules.{rules}
use Rattle.place_search.proofs.any_past.Goals as goal

pub loop-p-init : goal.loop-p-init
loop-p-init c = search (pass_start, rules)

pub offset-requires : goal.offset-requires
offset-requires c = search (pass_inside, rules)

pub end_at-requires : goal.end_at-requires
end_at-requires c = search (pass_inside, rules)

pub returns-then-past32 : goal.returns-then-past32
returns-then-past32 c = search (pass_one, rules)

pub next-p-requires : goal.next-p-requires
next-p-requires c = search (pass_inside, rules)

pub loop-p-smaller : goal.loop-p-smaller
loop-p-smaller c = search (pass_less, rules)

pub loop-p-preserved : goal.loop-p-preserved
loop-p-preserved c = search (pass_more, rules)

pub returns : goal.returns
returns c = search (pass_end, rules)
