-- `soundness::chained` meets its contract. The loop's invariant: of the entries that are left, from the place where the last one ended, the answer is the same.
use Rattle.soundness.proofs.Chaining.{chaining_stands, chaining_done, chaining_broken, chaining_next}
use borrow.Author.Rules.{rules}
use Rattle.soundness.proofs.chained.Goals as goal

pub returns-in_default : goal.returns-in_default
returns-in_default c = search (chaining_broken, rules)

pub past-q-requires : goal.past-q-requires
past-q-requires c = search (chaining_stands, rules)

pub loop-q-preserved : goal.loop-q-preserved
loop-q-preserved c = let follows = c.in-Some.ensures in search (chaining_next, rules)

pub returns : goal.returns
returns c =
    let a = c.args in
    let l = c.loop-q in
    chaining_done a.s.now a.from a.to a.map l.q l.place c.le.result l.invariant c.loop-q-test.false c.le.ensures
