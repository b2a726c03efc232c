-- `soundness::sound` meets its contract. The loop's invariant: all that is left from record i on is sound exactly if the usage is.
use Rattle.soundness.proofs.Every.{every_one, every_stands, every_done, every_broken, every_next}
use borrow.Author.Rules.{rules}
use Rattle.soundness.proofs.sound.Goals as goal

pub loop-i-init : goal.loop-i-init
loop-i-init c = search (every_one, rules)

pub own-requires : goal.own-requires
own-requires c = search (every_stands, rules)

pub returns-then-not-own : goal.returns-then-not-own
returns-then-not-own c = search (every_broken, rules)

pub loop-i-preserved : goal.loop-i-preserved
loop-i-preserved c = search (every_next, rules)

pub returns : goal.returns
returns c = search (every_done, rules)
