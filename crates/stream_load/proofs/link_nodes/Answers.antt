-- `stream_load::link_nodes` meets its contract: from record i on all is linked, and each turn links one record more.
use mathlib.Core.Path.{refl, ◌∙◌}
use native.Mathlib.Omega.{arith}
use Rattle.stream_load.proofs.Backwards.{linking_none, linking_more, all_tied, ripe_at}
use Rattle.stream_load.proofs.link_nodes.Goals as goal

pub loop-i-init : goal.loop-i-init
loop-i-init c = (linking_none _ _ _, omega arith, omega arith, refl)

pub link-requires : goal.link-requires
link-requires c =
    let inv = c.loop-i.invariant in
    ripe_at inv.0 (omega arith) (omega arith) inv.2 c.requires inv.3

pub loop-i-preserved : goal.loop-i-preserved
loop-i-preserved c =
    let inv = c.loop-i.invariant in
    (linking_more inv.0 (omega arith) (omega arith) inv.2 c.requires c.link.ensures, omega arith, omega arith, c.link.auto.s ∙ inv.3)

pub returns : goal.returns
returns c = let inv = c.loop-i.invariant in all_tied inv.0 (omega arith)
