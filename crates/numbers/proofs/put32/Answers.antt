-- `numbers::put32` meets its contract. The four bytes are written over a part.
use mathlib.Core.Path.{◌∙◌}
use native.Mathlib.Omega.{arith}
use Rattle.numbers.proofs.Parts.{le_bytes, put_part}
use Rattle.numbers.proofs.put32.Goals as goal

pub returns : goal.returns
returns c =
    let e = c.copy_from_slice.ensures.after ∙ c.to_le_bytes.ensures ∙ le_bytes c.args.v in
    rw e (put_part 4 c.args.s.now c.args.i _ c.args.v (omega arith) (omega arith))
