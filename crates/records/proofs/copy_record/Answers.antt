-- `records::copy_record` meets its contract: the bytes of the fields are copied, and no others change.
use native.Mathlib.Omega.{arith}
use Rattle.records.proofs.Copying.{set_copied}
use Rattle.records.proofs.copy_record.Goals as goal

pub returns : goal.returns
returns c = let h = c.copy_within.ensures.by_index in set_copied _ _ _ _ _ (omega arith) h.0 h.1 h.2
