-- `place_maps::reverse` meets its contract. The loop keeps what `Reverses` says, and one entry less is left in each turn.
use borrow.Author.Rules.{rules}
use Rattle.place_maps.proofs.Reversing.{reverses_start, reverses_in, reverses_more, reverses_less, reverses_end}
use Rattle.place_maps.proofs.reverse.Goals as goal

pub loop-p-init : goal.loop-p-init
loop-p-init c = search (reverses_start, rules)

pub next-n-requires : goal.next-n-requires
next-n-requires c = search (reverses_in, rules)

pub put_next-requires : goal.put_next-requires
put_next-requires c = (search (reverses_in, rules), search rules)

pub loop-p-smaller : goal.loop-p-smaller
loop-p-smaller c = search (reverses_less, rules)

pub loop-p-preserved : goal.loop-p-preserved
loop-p-preserved c = search (reverses_more, rules)

pub returns : goal.returns
returns c = search (reverses_end, rules)
