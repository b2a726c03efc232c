-- `remember` meets its contract: the node has the tag, and the list what was put into it.
use Rattle.support_cache.proofs.remember.Goals as goal

pub returns : goal.returns
returns c = record { node = rw c.tag_of.ensures at c.put_mark.ensures; list = c.insert.ensures }
