-- `soundness::follow` meets its contract. Each test that fails decides, and where none does the entry follows.
use mathlib.Core.Path.{refl}
use Rattle.soundness.proofs.Entry.{starts_before, empty, too_far, follows_dynamic, follows_fixed}
use Rattle.soundness.proofs.follow.Goals as goal
use Rattle.soundness.proofs.follow.Goals.{then-lt-via-then-lt, then-lt-via-else-lt+then-not-some}

pub returns-then-lt : goal.returns-then-lt
returns-then-lt c = elim c.then-lt.branch [
  | then-lt-via-then-lt w ↦ starts_before _ _ _ c.lt.ensures _ w.if-lt.true
  | then-lt-via-else-lt+then-not-some w ↦ empty c.args.place _ _ c.lt.ensures _ _ w.some.ensures.0 w.if-not-some.true
]

pub returns-in_err-checked_add-in-Fixed : goal.returns-in_err-checked_add-in-Fixed
returns-in_err-checked_add-in-Fixed c =
    rw (c.from_residual.ensures, c.in-Fixed.is) (too_far c.args.place _ _ c.lt.ensures _ c.in_err-checked_add-in-Fixed.ensures)

pub returns-in-Dynamic : goal.returns-in-Dynamic
returns-in-Dynamic c = rw c.in-Dynamic.is (follows_dynamic c.args.place _ _ c.lt.ensures c.if-lt.false, refl)

pub returns-in_ok-checked_add-in-Fixed : goal.returns-in_ok-checked_add-in-Fixed
returns-in_ok-checked_add-in-Fixed c =
    let sum = c.in_ok-checked_add-in-Fixed.ensures in
    rw (c.in-Fixed.is, sum.1) (follows_fixed c.args.place _ _ c.lt.ensures _ _ c.if-lt.false (rw c.in-Fixed.is at c.some.ensures.0) c.if-not-some.false sum.0, refl)
