-- `stream_write::own_width` meets its contract: the command table's row is the definitions', whose widths are small.
use mathlib.Core.Path.{ap}
use native.Mathlib.Omega.{arith}
use Rattle.definitions.specs.Command.{Command}
use Rattle.numbers.proofs.Widths.{argument_width_lem, size_width_lem}
use Rattle.stream_write.proofs.own_width.Goals as goal

pub overflow_add-result : goal.overflow_add-result
overflow_add-result c = omega (arith, ap (λ (r : Command). r.size) c.of-row.ensures, (size_width_lem c.command.result).small)

pub overflow_add-result-2 : goal.overflow_add-result-2
overflow_add-result-2 c =
    omega (
      arith,
      ap (λ (r : Command). r.size) c.of-row.ensures,
      ap (λ (r : Command). r.argument) c.of-row.ensures,
      (size_width_lem c.command.result).small,
      (argument_width_lem c.command.result).small,
    )
