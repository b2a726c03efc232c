-- `place_entries::next_entry` meets its contract. With no entry left the result is the whole, and else the first of those left goes into it.
use Rattle.std.proofs.Common.{refl}
use Rattle.place_entries.proofs.Steps.{rest_inside, next_none, next_more}
use Rattle.place_entries.proofs.next_entry.Goals as goal

pub returns-then-q-eq0 : goal.returns-then-q-eq0
returns-then-q-eq0 c = next_none _ _ _ _ c.requires.rule _ _ c.if-q-eq0.true c.drop_heading.ensures c.finished.ensures

pub offset-o-requires : goal.offset-o-requires
offset-o-requires c = rest_inside _ _ _ c.requires.waiting c.requires.rule c.if-q-eq0.false

pub next-after-requires : goal.next-after-requires
next-after-requires c = rest_inside _ _ _ c.requires.waiting c.requires.rule c.if-q-eq0.false

pub returns : goal.returns
returns c =
    next_more _ _ _ _ c.requires.rule _ _ _ _ refl c.requires.waiting c.if-q-eq0.false c.offset-o.ensures c.next-after.ensures.0
    c.of_entry.ensures
