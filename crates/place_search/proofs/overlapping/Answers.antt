-- `place_search::overlapping` meets its contract: the entries up to the finger are below if it starts before e and ends by d.
use Rattle.place_search.proofs.Linking.{listed_linked}
use Rattle.place_search.proofs.Skipping.{finger_within, finger_inside, finger_linked, parts_finger, parts_first}
use Rattle.place_search.proofs.overlapping.Goals as goal

pub passes-requires : goal.passes-requires
passes-requires c = finger_within c.requires c.argument-finger.ensures

pub past-requires : goal.past-requires
past-requires c = finger_inside c.requires c.argument-finger.ensures c.passes.ensures c.if-passes.true

pub behind-requires : goal.behind-requires
behind-requires c = finger_linked c.requires c.argument-finger.ensures c.passes.ensures c.if-passes.true c.past.ensures.1

pub returns-then-passes : goal.returns-then-passes
returns-then-passes c =
    parts_finger c.argument-finger.ensures c.passes.ensures c.if-passes.true c.past.ensures.0 c.past.ensures.1 c.behind.ensures

pub behind-requires-2 : goal.behind-requires-2
behind-requires-2 c = listed_linked c.requires c.child-first.ensures.0

pub returns : goal.returns
returns c = parts_first c.child-first.ensures.0 c.behind-2.ensures
