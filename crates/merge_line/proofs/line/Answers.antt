-- `line` meets its contract: no line is longer than the buffer.
use Rattle.std.proofs.Common.{rules, refl}
use Rattle.merge_line.proofs.Lengths.{line_held}
use Rattle.merge_line.proofs.line.Goals as goal

pub returns : goal.returns
returns c = line_held _ _ c.args.input.now _ c.printed.ensures refl (search rules) c.requires
