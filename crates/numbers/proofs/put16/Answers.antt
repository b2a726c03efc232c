-- `numbers::put16` meets its contract. The lowest two bytes are written over a part.
use mathlib.Core.Path.{ap, ◌∙◌}
use native.Mathlib.Omega.{arith}
use lib.ListN.{take}
use Rattle.numbers.proofs.Parts.{put_part}
use Rattle.numbers.proofs.put16.Goals as goal

pub returns : goal.returns
returns c =
    let e = c.copy_from_slice.ensures.after ∙ ap (take 2) c.to_le_bytes.ensures in
    rw e (put_part 2 c.args.s.now c.args.i _ c.args.v (omega arith) (omega arith))
