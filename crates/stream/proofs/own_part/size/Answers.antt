-- `size` meets its contract: both choose by the flag, and then by the number.
use native.Mathlib.Omega.{arith}
use borrow.Author.Tests.{ne_eqb}
use lib.ListN.{get_or}
use Rattle.definitions.specs.If.{when◌then◌else◌}
use Rattle.stream.proofs.Places.{size_at_lem}
use Rattle.stream.proofs.own_part.size.Goals as goal

pub returns-in-1 : goal.returns-in-1
unfolding when◌then◌else◌
returns-in-1 c =
    let a = c.args in
    rw (size_at_lem a.width a.s.now a.at c.if-width-eq0.false (omega arith), ← c.number-n.ensures, c.in-1.is)

pub returns-in-0 : goal.returns-in-0
unfolding when◌then◌else◌
returns-in-0 c =
    let a = c.args in
    rw (
      size_at_lem a.width a.s.now a.at c.if-width-eq0.false (omega arith),
      ← c.number-n.ensures,
      c.in-0.is,
      c.if-n-eq0.true,
    )

pub returns-in_default : goal.returns-in_default
unfolding when◌then◌else◌
returns-in_default c =
    let a = c.args in
    rw (
      size_at_lem a.width a.s.now a.at c.if-width-eq0.false (omega arith),
      ← c.number-n.ensures,
      c.in-0.is,
      ne_eqb _ _ c.if-n-eq0.false,
    )

pub returns-in_default-2 : goal.returns-in_default-2
unfolding when◌then◌else◌
returns-in_default-2 c =
    let a = c.args in
    let flag = get_or a.s.now a.at 0 in
    rw (
      size_at_lem a.width a.s.now a.at c.if-width-eq0.false (omega arith),
      ne_eqb flag 1 (λ e. omega arith),
      ne_eqb flag 0 (λ e. omega arith),
    )
