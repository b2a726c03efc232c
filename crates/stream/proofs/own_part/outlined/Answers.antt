-- `outlined` meets its contract: the argument stands behind the size, both in the bytes that the command's row gives them.
use mathlib.Core.Path.{◌≡◌, ap}
use native.Mathlib.Omega.{arith}
use lib.ListN.{get_or}
use Rattle.definitions.specs.Command.{command_at}
use Rattle.qptr.specs.Values.{row_of}
use Rattle.numbers.proofs.Widths.{argument_width_lem, size_width_lem}
use Rattle.stream.proofs.Parts.{head_cut, outline_at}
use Rattle.stream.proofs.own_part.outlined.Goals as goal

pub overflow_add-before : goal.overflow_add-before
overflow_add-before c = omega (arith, (size_width_lem c.command.result).small, ap (λ r. r.size) c.of-row.ensures)

pub overflow_add-width : goal.overflow_add-width
overflow_add-width c =
    let row = c.of-row.ensures in
    omega (
      arith,
      (size_width_lem c.command.result).small,
      ap (λ r. r.size) row,
      (argument_width_lem c.command.result).small,
      ap (λ r. r.argument) row,
    )

pub returns-then-s-at : goal.returns-then-s-at
returns-then-s-at c =
    let row_is : (let a = c.args in row_of c.of-row.result ≡ command_at (get_or a.s.now a.at 0)) = rw (c.requires.1, ← c.command.ensures) c.of-row.ensures in
    let a = c.args in
    head_cut a.s.now a.at (omega arith) c.of-row.result row_is (omega arith)

pub number-argument-requires : goal.number-argument-requires
number-argument-requires c = (rw (ap (λ r. r.argument) c.of-row.ensures) (argument_width_lem _), omega arith)

pub returns : goal.returns
returns c =
    let row_is : (let a = c.args in row_of c.of-row.result ≡ command_at (get_or a.s.now a.at 0)) = rw (c.requires.1, ← c.command.ensures) c.of-row.ensures in
    let a = c.args in
    outline_at a.s.now a.at (omega arith) c.of-row.result row_is (omega arith) a.kind c.requires.1 c.new.result
    (rw (← c.number-argument.ensures) c.new.ensures)
