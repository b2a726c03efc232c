-- Both call on fewer nodes, or merging on the same: the measure counts the nodes of both sides twice, and merging once more. The loop keeps its goal ahead.
use Rattle.std.proofs.Common.{ℕ, arith}
use Rattle.std.specs.Prelude.{Ok}
use Rattle.place_states.specs.Calls.{Placed}
use Rattle.std.proofs.lemmas.Result.{err_from_is_err_and}
use Rattle.analyze.proofs.Loop.{begun_refused, loop_last, loop_refused, loop_waits, pair_asked, loop_again, chain_less, alive, acting, placed_pair, merged_pair}
use Rattle.analyze.proofs.Merging.{ready_swap, merged_left, merged_right}
use Rattle.analyze.proofs.+merging.Goals as goal
use Rattle.analyze.proofs.+merging.Goals.{merge_mem_at-After-take_result-st, merge_mem_at-in-Place+in_ok-r-in-Place, merge_mem_at-in-Merge+in_ok-r-in-Merge}

pub merge_mem-returns-then-first_receives : goal.merge_mem-returns-then-first_receives
merge_mem-returns-then-first_receives t c =
    merged_left c.root.ensures c.root-2.ensures c.first_receives.ensures c.if-first_receives.true c.merge_mem_at.ensures

pub merge_mem-merge_mem_at-requires-2 : goal.merge_mem-merge_mem_at-requires-2
merge_mem-merge_mem_at-requires-2 t c =
    (omega (arith, c.decreases), (ready_swap c.requires.ready, omega (arith, c.requires.near)))

pub merge_mem-returns : goal.merge_mem-returns
merge_mem-returns t c =
    merged_right c.root.ensures c.root-2.ensures c.first_receives.ensures c.if-first_receives.false c.merge_mem_at-2.ensures

pub merge_mem_at-returns-in_err-st : goal.merge_mem_at-returns-in_err-st
merge_mem_at-returns-in_err-st t c =
    let p = err_from_is_err_and c.from_residual.result c.from_residual.ensures.1 in rw (p.1, p.2) (begun_refused c.in_err-st.ensures)

pub merge_mem_at-returns-in-Finished : goal.merge_mem_at-returns-in-Finished
merge_mem_at-returns-in-Finished t c =
    loop_last c.requires.ready c.requires.near c.in_ok-st.ensures c.turns.invariant c.in-Finished.is

pub merge_mem_at-step-st-requires : goal.merge_mem_at-step-st-requires
merge_mem_at-step-st-requires t c =
    loop_waits c.requires.ready c.requires.near c.in_ok-st.ensures c.turns.invariant c.begin.auto.s c.in-Go.is

pub merge_mem_at-merge_mem_at-requires : goal.merge_mem_at-merge_mem_at-requires
merge_mem_at-merge_mem_at-requires t c =
    let p = pair_asked c.requires.ready c.requires.near c.in_ok-st.ensures c.turns.invariant c.in-Pair.is c.begin.auto.s in
    (omega (arith, c.decreases, p.0), (p.1, p.2))

pub merge_mem_at-returns-in_err-r-in-Place : goal.merge_mem_at-returns-in_err-r-in-Place
merge_mem_at-returns-in_err-r-in-Place t c =
    let p = err_from_is_err_and c.from_residual-in_err-r-in-Place.result c.from_residual-in_err-r-in-Place.ensures.1 in
    rw (p.1, p.2) (loop_refused c.requires.ready c.requires.near c.in_ok-st.ensures c.turns.invariant c.in-Pair.is (placed_pair _ c.in-Place.is c.in_err-r-in-Place.ensures))

pub merge_mem_at-merge_mem-requires : goal.merge_mem_at-merge_mem-requires
merge_mem_at-merge_mem-requires t c =
    let p = pair_asked c.requires.ready c.requires.near c.in_ok-st.ensures c.turns.invariant c.in-Pair.is c.begin.auto.s in
    (omega (arith, c.decreases, p.0), (p.1, p.2))

pub merge_mem_at-returns-in_err-r-in-Merge : goal.merge_mem_at-returns-in_err-r-in-Merge
merge_mem_at-returns-in_err-r-in-Merge t c =
    let p = err_from_is_err_and c.from_residual-in_err-r-in-Merge.result c.from_residual-in_err-r-in-Merge.ensures.1 in
    rw (p.1, p.2) (loop_refused c.requires.ready c.requires.near c.in_ok-st.ensures c.turns.invariant c.in-Pair.is (merged_pair _ c.in-Merge.is c.in_err-r-in-Merge.ensures))

-- whichever call the pair asked for, it gave what placing or merging gives
pair_placed : (t : ℕ) (c : merge_mem_at-After-take_result-st t) → Placed (acting c.in-Pair.how c.turns.st.d) c.args.setting.now c.turns.s c.turns.st.x c.turns.st.m c.match-how.s (Ok c.match-how.r) c.turns.report c.match-how.report
pair_placed t c = elim c.match-how.branch [
  | merge_mem_at-in-Place+in_ok-r-in-Place w ↦ rw (← w.s-is, ← w.report-is, ← w.r-is) at (placed_pair c.turns.st.d w.in-Place.is w.in_ok-r-in-Place.ensures)
  | merge_mem_at-in-Merge+in_ok-r-in-Merge w ↦ rw (← w.s-is, ← w.report-is, ← w.r-is) at (merged_pair c.turns.st.d w.in-Merge.is w.in_ok-r-in-Merge.ensures)
]

pub merge_mem_at-turns-smaller : goal.merge_mem_at-turns-smaller
merge_mem_at-turns-smaller t c =
    chain_less c.turns.invariant c.in-Pair.is (omega (arith, c.requires.near)) (pair_placed t c) c.take_result-st.ensures (omega (arith, c.take_result-st.type_inv))
    c.requires.ready.setting c.requires.ready.known (alive c.requires.ready c.requires.near c.in_ok-st.ensures c.turns.invariant)

pub merge_mem_at-turns-preserved : goal.merge_mem_at-turns-preserved
merge_mem_at-turns-preserved t c =
    loop_again c.turns.invariant c.in-Pair.is (omega (arith, c.requires.near)) (pair_placed t c) c.take_result-st.ensures (omega (arith, c.take_result-st.type_inv)) c.match-how.auto.s
