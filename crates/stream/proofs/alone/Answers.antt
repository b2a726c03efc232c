-- `alone` meets its contract: a node that ends where the bytes do is all of them.
use Rattle.stream.proofs.Wholes.{whole_not}
use Rattle.stream.proofs.alone.Goals as goal

pub returns-else-end-s : goal.returns-else-end-s
returns-else-end-s c =
    let here = c.in_ok-end.ensures in
    rw (here.reads, whole_not here.usage _ _ here.within c.if-end-s.false)
