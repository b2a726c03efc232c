-- `first_receives` meets its contract: its tests are those of the definition, in the same order, on the two nodes.
use Rattle.qptr.proofs.Nodes.{first_larger, second_larger, tie_to_first, tie_to_second}
use Rattle.qptr.proofs.first_receives.Goals as goal

pub returns-then-lt : goal.returns-then-lt
returns-then-lt c = let a = c.args in first_larger a.choices a.a a.b c.lt.ensures c.if-lt.true

pub returns-then-lt-2 : goal.returns-then-lt-2
returns-then-lt-2 c = let a = c.args in second_larger a.choices a.a a.b c.lt.ensures c.if-lt.false c.lt-2.ensures c.if-lt-2.true

pub returns-in-First : goal.returns-in-First
returns-in-First c =
    let a = c.args in
    tie_to_first a.choices a.a a.b c.lt.ensures c.if-lt.false c.lt-2.ensures c.if-lt-2.false c.strictness.result c.strictness-in-First.result
    c.strictness.ensures c.strictness-in-First.ensures c.in-First.is c.le.ensures

pub returns-in-Second : goal.returns-in-Second
returns-in-Second c =
    let a = c.args in
    tie_to_second a.choices a.a a.b c.lt.ensures c.if-lt.false c.lt-2.ensures c.if-lt-2.false c.strictness-in-Second.result c.strictness-in-Second-2.result
    c.strictness-in-Second.ensures c.strictness-in-Second-2.ensures c.in-Second.is c.lt-in-Second.ensures
