-- `finish` meets its contract: what was written is given back, and a refused call leaves a report of zeros.
use mathlib.Core.Path.{refl}
use Rattle.call_answers.proofs.Finishing.{finished_cleared}
use Rattle.call_answers.proofs.finish.Goals as goal

pub returns : goal.returns
returns c =
    let kept = c.cleared.ensures in
    finished_cleared c.write_merged-r.result c.write_merged-r.ensures (record { size = c.cleared.auto.rep; name = refl }) kept.same kept.answered kept.refused
