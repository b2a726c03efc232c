-- `place_maps::next_join` meets its contract. Each return has its law; what leads to it is what the callees and the tests say.
use Rattle.std.proofs.Common.{refl}
use Rattle.place_maps.proofs.Stepping.{within, rest_in, x_in}
use Rattle.place_maps.proofs.NextJoins.{lower_straddles, lower_receives, upper_straddles, upper_receives, equal_merges}
use Rattle.place_maps.proofs.next_join.Goals as goal
use Rattle.place_maps.proofs.next_join.Goals.{in_default-via-in-Less+else-b_end-entry_end, in_default-via-in-Greater+else-entry_end-b_end}

pub end_join-requires-clause-within : goal.end_join-requires-clause-within
end_join-requires-clause-within c = within _ _ _ c.requires.waiting c.requires.rule

pub offset-o-requires : goal.offset-o-requires
offset-o-requires c = rest_in _ _ _ c.requires.waiting c.requires.rule

pub end_at-entry_end-requires : goal.end_at-entry_end-requires
end_at-entry_end-requires c = rest_in _ _ _ c.requires.waiting c.requires.rule

pub end_at-b_end-requires : goal.end_at-b_end-requires
end_at-b_end-requires c = x_in _ _ _ c.requires.waiting c.requires.rule

pub join-requires : goal.join-requires
join-requires c = rest_in _ _ _ c.requires.waiting c.requires.rule

pub join-requires-in-Equal : goal.join-requires-in-Equal
join-requires-in-Equal c = rest_in _ _ _ c.requires.waiting c.requires.rule

pub join-requires-in-Greater : goal.join-requires-in-Greater
join-requires-in-Greater c = rest_in _ _ _ c.requires.waiting c.requires.rule

pub straddle-requires-clause-within : goal.straddle-requires-clause-within
straddle-requires-clause-within c = within _ _ _ c.requires.waiting c.requires.rule

pub returns-in-Less : goal.returns-in-Less
returns-in-Less c =
    lower_receives _ _ _ _ _ _ _ c.requires.waiting c.requires.rule c.if-entry-eq0.false c.offset-o.ensures c.cmp.ensures
    c.end_at-entry_end.ensures c.end_at-b_end.ensures c.in-Less.is c.if-b_end-entry_end.true refl c.join.ensures

pub returns-in-Equal : goal.returns-in-Equal
returns-in-Equal c =
    equal_merges _ _ _ _ _ 0 0 c.requires.waiting c.requires.rule c.if-entry-eq0.false c.offset-o.ensures c.cmp.ensures
    c.in-Equal.is c.join-in-Equal.ensures

pub returns-in-Greater : goal.returns-in-Greater
returns-in-Greater c =
    upper_receives _ _ _ _ _ _ _ c.requires.waiting c.requires.rule c.if-entry-eq0.false c.offset-o.ensures c.cmp.ensures
    c.end_at-entry_end.ensures c.end_at-b_end.ensures c.in-Greater.is c.if-entry_end-b_end.true refl c.join-in-Greater.ensures

pub returns-in_default : goal.returns-in_default
returns-in_default c = elim c.in_default.branch [
  | in_default-via-in-Less+else-b_end-entry_end w ↦
      lower_straddles _ _ _ _ _ _ _ c.requires.waiting c.requires.rule c.if-entry-eq0.false c.offset-o.ensures c.cmp.ensures
      c.end_at-entry_end.ensures c.end_at-b_end.ensures w.in-Less.is w.if-b_end-entry_end.false c.straddle.ensures
  | in_default-via-in-Greater+else-entry_end-b_end w ↦
      upper_straddles _ _ _ _ _ _ _ c.requires.waiting c.requires.rule c.if-entry-eq0.false c.offset-o.ensures c.cmp.ensures
      c.end_at-entry_end.ensures c.end_at-b_end.ensures w.in-Greater.is w.if-entry_end-b_end.false c.straddle.ensures
]
