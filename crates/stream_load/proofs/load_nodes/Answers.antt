-- `stream_load::load_nodes` meets its contract: each turn takes one node out of the bytes that are left.
use Prim.Native.Nat.{ℕ, ◌<◌}
use mathlib.Core.Path.{refl, ◌∙◌}
use native.Mathlib.Omega.{arith}
use lib.ListN.{get_or}
use Rattle.stream_load.proofs.Loading.{this_turn, same_nodes, loads_none, loads_more, loads_done, begins_inside}
use Rattle.numbers.proofs.Widths.{no_bytes}
use Rattle.stream_load.proofs.Widths.{front_width}
use Rattle.stream_load.proofs.load_nodes.Goals as goal

pub loop-i-init : goal.loop-i-init
loop-i-init c =
    let small : (k : ℕ) → get_or c.args.s.now k 0 < 256 = λ k. (c.type_inv.s k).fits in
    (loads_none small, (λ j lt. refl), no_bytes, omega arith, omega arith, begins_inside small c.requires, refl)

pub load_own-p-requires : goal.load_own-p-requires
load_own-p-requires c =
    let loop = c.loop-i in
    let here = this_turn loop.invariant.0 loop.invariant.3 c.requires refl (omega arith) in
    record {
      offset = here.offset;
      usage = here.usage;
      rest = here.after;
      stands = here.stands;
      width = loop.invariant.2;
      inside = omega (arith, c.requires.inside, loop.invariant.6);
    }

pub loop-i-preserved : goal.loop-i-preserved
loop-i-preserved c =
    let inv = c.loop-i.invariant in (
      loads_more inv.0 inv.3 (omega arith) c.load_own-p.ensures c.front_behind-front.ensures,
      (λ j lt. c.load_own-p.ensures.others j (omega arith) ∙ inv.1 j lt),
      rw c.front_behind-front.ensures (front_width _),
      omega arith,
      omega arith,
      c.load_own-p.ensures.within,
      c.load_own-p.auto.work ∙ inv.6,
    )

pub returns : goal.returns
returns c =
    let inv = c.loop-i.invariant in
    let same = same_nodes c.requires in
    record {
      raw = λ u rest e. (loads_done inv.0 inv.3 (omega arith) u rest e (same u rest e)).0;
      behind = λ u rest e. (loads_done inv.0 inv.3 (omega arith) u rest e (same u rest e)).1;
      within = inv.5;
      kept = inv.1;
    }
