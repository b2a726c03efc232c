-- `stream_load::link_entries` meets its contract: each turn links one entry to the next, and the last one is linked to none already.
use mathlib.Core.Path.{refl, ◌∙◌}
use native.Mathlib.Omega.{arith}
use borrow.Author.Rules.{rules}
use Rattle.stream_load.proofs.Tying.{ties_none, entry_inside, entry_more, ties_more, tied}
use Rattle.stream_load.proofs.link_entries.Goals as goal

pub loop-i-init : goal.loop-i-init
loop-i-init c = (ties_none c.requires.some, c.requires.some, refl)

pub nodes-requires : goal.nodes-requires
nodes-requires c = search (entry_inside, rules)

pub put_next-requires : goal.put_next-requires
put_next-requires c =
    let inv = c.loop-i.invariant in
    let pre = c.requires in
    let e = c.nodes.ensures.0 in
    (omega (arith, entry_inside inv.0 pre inv.2), entry_more inv.0 pre inv.2 e (omega arith))

pub loop-i-preserved : goal.loop-i-preserved
loop-i-preserved c = (search (ties_more, rules), omega arith, c.put_next.auto.s ∙ c.loop-i.invariant.2)

pub nodes-requires-2 : goal.nodes-requires-2
nodes-requires-2 c = search (entry_inside, rules)

pub returns : goal.returns
returns c = search (tied, rules)
