-- Each return is one of rule 4's cases; a question leaves the records as they were.
use Rattle.std.proofs.Common.{rules}
use Rattle.support.proofs.Staying.{asks_after, answers_before}
use Rattle.place_leaf.proofs.Keeping.{keeps_equal, keeps_first, keeps_second, keeps_one}
use Rattle.place_leaf.proofs.Typing.{askable_right, askable_left}
use Rattle.place_leaf.proofs.kept_type.Goals as goal

pub ask-requires : goal.ask-requires
ask-requires c = search (askable_right, rules)

pub returns-in_default-clause-keeps : goal.returns-in_default-clause-keeps
returns-in_default-clause-keeps c = search (keeps_one, rules)

pub returns-then-c-ty-clause-keeps : goal.returns-then-c-ty-clause-keeps
returns-then-c-ty-clause-keeps c = keeps_equal c.argument-ty.ensures c.in-Some.ensures c.if-c-ty.true

pub ask-asked-requires : goal.ask-asked-requires
ask-asked-requires c = search (askable_right, rules)

pub ask-requires-then-is_no : goal.ask-requires-then-is_no
ask-requires-then-is_no c = asks_after c.ask-asked.ensures.unchanged (askable_left c.requires.ready c.in-Some.ensures)

pub returns-then-is_no-clause-keeps : goal.returns-then-is_no-clause-keeps
returns-then-is_no-clause-keeps c =
    let asked = c.ask-asked.ensures in
    keeps_second c.argument-ty.ensures c.in-Some.ensures c.if-c-ty.false asked.asked c.is_no.ensures c.if-is_no.true (answers_before asked.unchanged c.ask-then-is_no.ensures.asked) c.decide-then-is_no.ensures

pub returns-clause-keeps : goal.returns-clause-keeps
returns-clause-keeps c =
    keeps_first c.argument-ty.ensures c.in-Some.ensures c.if-c-ty.false c.ask-asked.ensures.asked c.is_no.ensures c.if-is_no.false c.decide-2.ensures
