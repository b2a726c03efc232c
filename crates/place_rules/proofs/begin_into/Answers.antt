-- Each kind of a has its rule.
use Rattle.place_unused.proofs.Resizing.{resized_begins}
use Rattle.place_states.proofs.Starting.{starts_begins}
use Rattle.place_rules.proofs.Begun.{left_of_kind}
use Rattle.place_rules.proofs.begin_into.Goals as goal

pub begin_unused-requires-clause-unused : goal.begin_unused-requires-clause-unused
begin_unused-requires-clause-unused c = left_of_kind c.requires.ready _ c.in-Unused.ensures

pub begin_unused-requires-clause-beside : goal.begin_unused-requires-clause-beside
begin_unused-requires-clause-beside c =
    let R = c.requires.ready in
    record {
      k = _;
      t = _;
      u = _;
      r = _;
      lo = _;
      mid = _;
      hi = _;
      two = R.two;
      left_in = R.left_in;
      right_in = R.right_in;
      left_some = R.left_some;
      right_some = R.right_some;
      linkable = R.linkable;
    }

pub returns-in-Unused : goal.returns-in-Unused
returns-in-Unused c = resized_begins _ _ _ _ _ _ _ _ c.requires.plain c.begin_unused.ensures

pub returns-in-OffsetBase : goal.returns-in-OffsetBase
returns-in-OffsetBase c = starts_begins _ _ _ _ _ _ _ _ _ c.begin_join.ensures

pub returns-in-DynOffsetBase : goal.returns-in-DynOffsetBase
returns-in-DynOffsetBase c = starts_begins _ _ _ _ _ _ _ _ _ c.begin_array.ensures
