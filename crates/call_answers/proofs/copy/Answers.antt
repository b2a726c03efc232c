-- `copy` meets its contract. The loop's invariant: the first i bytes are copied, and the others are as they were.
use mathlib.Core.Path.{◌≡◌, refl, ◌∙◌}
use native.Mathlib.Omega.{arith}
use lib.ListN.{length, length-set}
use Rattle.call_answers.proofs.Copying.{copied_more, copied_all}
use Rattle.call_answers.proofs.copy.Goals as goal

pub loop-i-init : goal.loop-i-init
loop-i-init c = (refl, refl)

pub loop-i-preserved : goal.loop-i-preserved
loop-i-preserved c =
    let a = c.args in
    let at = c.loop-i in
    (copied_more a.from.now a.to.now at.invariant.0 (omega arith) (omega arith), length-set at.to at.i _ ∙ at.invariant.1)

pub returns : goal.returns
returns c =
    let a = c.args in
    let all : c.loop-i.i ≡ length a.from.now = omega arith in
    copied_all a.from.now a.to.now c.loop-i.invariant.0 all
