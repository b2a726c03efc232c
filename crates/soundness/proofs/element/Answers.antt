-- `soundness::element` meets its contract. The tests are the definition's.
use borrow.Author.Rules.{rules}
use Rattle.soundness.proofs.Entry.{fills_nothing, fills_same}
use Rattle.soundness.proofs.element.Goals as goal

pub returns-then-stride-ne0 : goal.returns-then-stride-ne0
returns-then-stride-ne0 c = search (fills_same, rules)

pub returns-else-stride-ne0 : goal.returns-else-stride-ne0
returns-else-stride-ne0 c = fills_nothing _ _ c.if-stride-ne0.false
