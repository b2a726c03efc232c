-- `fold_next` meets its contract: the node is loaded behind what there is so far, and the two are merged. A 38 stays where the
-- position says that something was reported behind it.
use Rattle.std.proofs.Common.{refl, arith}
use Rattle.std.proofs.lemmas.Result.{err_from_is_err_and}
use Rattle.call_fold.proofs.Nexts.{index_taken, next_node_ready, next_merges, next_near, next_refused, next_folded}
use Rattle.call_fold.proofs.fold_next.Goals as goal

pub load_node-next-requires : goal.load_node-next-requires
load_node-next-requires c = next_node_ready c.requires

pub merge_mem-requires : goal.merge_mem-requires
merge_mem-requires c = record {
  ready = next_merges c.requires c.load_node-next.auto.work c.load_node-next.ensures;
  near = next_near c.requires c.load_node-next.auto.work c.load_node-next.ensures _ (omega (arith, c.requires.near, c.of_node.ensures.place));
}

pub returns-in_err-r : goal.returns-in_err-r
returns-in_err-r c =
    let p = err_from_is_err_and c.from_residual.result c.from_residual.ensures.1 in
    rw (p.1, p.2) (next_refused c.requires c.load_node-next.auto.work c.load_node-next.ensures c.args.i c.of_node.ensures c.in_err-r.ensures)

pub returns : goal.returns
returns c =
    next_folded c.requires c.load_node-next.auto.work c.load_node-next.ensures c.args.i c.in_ok-r.ensures refl (index_taken c.args.i c.requires.near c.of_node.ensures c.take_back.ensures)
