-- `place_maps::insert` meets its contract. Each of its returns has its law.
use Rattle.place_maps.proofs.Linking.{inserts_first, inserts_behind, inserts_over}
use Rattle.place_maps.proofs.insert.Goals as goal
use Rattle.place_maps.proofs.insert.Goals.{then-low-eq0-via-then-low-eq0, then-low-eq0-via-else-low-eq0+then-offset-o}

pub returns-then-low-eq0 : goal.returns-then-low-eq0
returns-then-low-eq0 c = elim c.then-low-eq0.branch [
  | then-low-eq0-via-then-low-eq0 w ↦ inserts_first _ _ _ _ _ _ w.if-low-eq0.true c.concat.ensures
  | then-low-eq0-via-else-low-eq0+then-offset-o w ↦ inserts_behind _ _ _ _ _ _ w.offset.ensures w.if-offset-o.true c.concat.ensures
]

pub returns : goal.returns
returns c =
    inserts_over _ _ _ _ _ _ _ c.if-low-eq0.false c.offset.ensures c.if-offset-o.false c.copy_record.auto.s c.put_argument.auto.s
    c.copy_record.ensures c.put_argument.ensures
