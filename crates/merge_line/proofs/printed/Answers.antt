-- `printed` meets its contract: the blocks that were found are merged.
use Rattle.merge_line.proofs.Printing.{not_framed, is_framed}
use Rattle.merge_line.proofs.printed.Goals as goal

pub returns-in-Some : goal.returns-in-Some
returns-in-Some c = is_framed _ _ c.in-Some.ensures c.merged.ensures

pub returns-in-None : goal.returns-in-None
returns-in-None c = not_framed _ c.in-None.ensures c.broken.ensures
