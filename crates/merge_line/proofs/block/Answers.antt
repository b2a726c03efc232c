-- `block` meets its contract: the length is read, and the bytes that it counts must be there.
use Rattle.merge_line.proofs.Framing.{block_split}
use Rattle.merge_line.proofs.block.Goals as goal

pub returns : goal.returns
returns c =
    let h = c.in_ok-rest.ensures.cases in
    block_split _ _ _ _ c.get32-n.ensures h.0 h.2 c.split_at_checked-2.ensures.cases
