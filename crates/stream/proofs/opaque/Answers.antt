-- `opaque` meets its contract: a type takes as many bytes as the table says, and no others follow.
use mathlib.Core.Path.{ap}
use native.Mathlib.Omega.{arith}
use native.Mathlib.Numerals.{add-one}
use Rattle.numbers.proofs.Widths.{argument_width_lem}
use Rattle.stream.proofs.Wholes.{opaque_not, opaque_is}
use Rattle.stream.proofs.opaque.Goals as goal

pub overflow_add-width : goal.overflow_add-width
overflow_add-width c = omega (arith, (argument_width_lem 0x08).small, ap (λ r. r.argument) c.of-width.ensures)

pub returns-then-s-width : goal.returns-then-s-width
returns-then-s-width c =
    let a = c.args in
    rw (opaque_not a.s.now _ (ap (λ r. r.argument) c.of-width.ensures) (omega arith) c.if-s-width.true)

pub number-ty-requires : goal.number-ty-requires
number-ty-requires c = (rw (ap (λ r. r.argument) c.of-width.ensures) (argument_width_lem 0x08), omega arith)

pub returns : goal.returns
returns c =
    let a = c.args in
    let width = ap (λ r. r.argument) c.of-width.ensures in
    rw (c.from.ensures, opaque_is a.s.now _ width c.number-ty.result c.if-s-width.false c.number-ty.ensures, add-one)
