-- `fold_nodes` meets its contract: what is left to fold, with what was reported and counted so far, gives what the definition does. A
-- refusal ends the fold.
use Rattle.std.proofs.Common.{◌≡◌, refl, ap, ◌∙◌, arith}
use Rattle.std.proofs.lemmas.Result.{err_from_is_err_and}
use Rattle.definitions.specs.Command.{Command, argument_width}
use Rattle.numbers.proofs.Widths.{argument_width_lem}
use Rattle.definitions.specs.Usage.{Nodes}
use Rattle.definitions.specs.Table.{Setting}
use Rattle.call_fold.specs.Folding.{Foldable}
use Rattle.call_fold.proofs.Folds.{count_inside, first_ready, first_few, fold_start, turn_ready, turn_refused, turn_on, fold_end}
use Rattle.call_fold.proofs.fold_nodes.Goals as goal
use Rattle.call_fold.proofs.fold_nodes.Goals.{After-of-width}

width : (c : After-of-width) → c.of-width.result.argument ≡ argument_width 0x0B
width c = omega (arith, ap (λ (r : Command). r.argument) c.of-width.ensures)

pub number-count-requires : goal.number-count-requires
number-count-requires c = count_inside c.requires.foldable (width (goal.at.number-count-requires c).After-of-width)

pub overflow_add-width : goal.overflow_add-width
overflow_add-width c = omega (arith, (argument_width_lem 0x0B).small, width (goal.at.overflow_add-width c).After-of-width)

pub load_node-first-requires : goal.load_node-first-requires
load_node-first-requires c = first_ready c.requires.foldable (width (goal.at.load_node-first-requires c).After-of-width) c.requires.area

pub overflow_add-f : goal.overflow_add-f
overflow_add-f c = omega (arith, first_few c.requires.foldable (width (goal.at.overflow_add-f c).After-of-width) c.load_node-first.ensures)

pub loop-i-init : goal.loop-i-init
loop-i-init c = (
  λ st ns h. fold_start h (width (goal.at.loop-i-init c).After-of-width) _ refl c.number-count.ensures c.load_node-first.ensures,
  refl,
)

pub fold_next-requires : goal.fold_next-requires
fold_next-requires c =
    let ready = c.requires in
    turn_ready (c.loop-i.invariant.0 ready.setting ready.listed ready.foldable) ready.foldable.known c.loop-i-test.true
    (c.loop-i.invariant.1 ∙ c.load_node-first.auto.work ∙ ready.area)

pub returns-in_err-f : goal.returns-in_err-f
returns-in_err-f c =
    let p = err_from_is_err_and c.from_residual.result c.from_residual.ensures.1 in
    let ready = c.requires in
    let refused = λ (st : Setting) (ns : Nodes) (h : Foldable c.args.setting.now c.args.list.now st ns). turn_refused (c.loop-i.invariant.0 st ns h) h.known c.loop-i-test.true c.in_err-f.ensures refl in
    let kept = (refused ready.setting ready.listed ready.foldable).1 in
    rw (p.1, p.2) (record { of = λ st ns h. (refused st ns h).0; kept = record { size = kept.size; name = kept.name } })

pub loop-i-preserved : goal.loop-i-preserved
loop-i-preserved c =
    let inv = c.loop-i.invariant in
    (λ st ns h. turn_on (inv.0 st ns h) h.known c.loop-i-test.true c.in_ok-f.ensures refl, c.fold_next.auto.work ∙ inv.1)

pub returns : goal.returns
returns c =
    let ready = c.requires in
    let emitted = (c.loop-i.invariant.0 ready.setting ready.listed ready.foldable).report in
    record {
      of = λ st ns h. fold_end (c.loop-i.invariant.0 st ns h) h.few c.loop-i-test.false;
      kept = record { size = emitted.size; name = emitted.same_buffer };
    }
