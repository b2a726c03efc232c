-- `place_maps::end_join` meets its contract. What it writes is put together.
use borrow.Author.Rules.{rules}
use Rattle.place_maps.proofs.Ending.{ends}
use Rattle.place_maps.proofs.end_join.Goals as goal

pub returns : goal.returns
returns c =
    ends _ _ _ _ _ _ _ _ _ c.requires.rule c.requires.none_left (search rules) (search rules) c.passed-above.ensures c.put_offset.ensures c.put_next.ensures
    c.insert.ensures c.drop_heading.ensures c.finished.ensures
