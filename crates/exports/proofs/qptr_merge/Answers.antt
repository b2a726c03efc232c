-- `qptr_merge` meets its contract. The check finds this alone; written out, a wrong answer fails soon.
use Rattle.exports.proofs.qptr_merge.Goals as goal

pub returns : goal.returns
returns c = c.qptr_merge_with.ensures
