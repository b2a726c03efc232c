-- `stream_write::entries` meets its contract: it goes from entry to entry, and stops where the links end.
use borrow.Author.Rules.{rules}
use Rattle.stream_write.proofs.Counting.{entry_inside, count_more, count_less, count_all}
use Rattle.stream_write.proofs.entries.Goals as goal

pub next-p-requires : goal.next-p-requires
next-p-requires c = search (entry_inside, rules)

pub loop-p-smaller : goal.loop-p-smaller
loop-p-smaller c = search (count_less, rules)

pub loop-p-preserved : goal.loop-p-preserved
loop-p-preserved c = search (count_more, rules)

pub returns : goal.returns
returns c = search (count_all, rules)

pub loop-p-init : goal.loop-p-init
loop-p-init c = search rules
