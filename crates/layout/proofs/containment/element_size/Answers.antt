-- The tests are the definition's, in its order.
use borrow.Author.Rules.{rules}
use Rattle.layout.proofs.Elements.{no_length, below_length, at_length_lem, above_length}
use Rattle.layout.proofs.containment.element_size.Goals as goal
use Rattle.layout.proofs.containment.element_size.Goals.{then-len-eq0-via-then-len-eq0, then-len-eq0-via-else-len-eq0+then-index-len}

pub returns-then-len-eq0 : goal.returns-then-len-eq0
returns-then-len-eq0 c =
    elim c.then-len-eq0.branch [
      | then-len-eq0-via-then-len-eq0 w ↦ search (no_length, rules)
      | then-len-eq0-via-else-len-eq0+then-index-len w ↦ search (below_length, rules)
    ]

pub returns-then-index-len-2 : goal.returns-then-index-len-2
returns-then-index-len-2 c = search (at_length_lem, rules)

pub returns-else-index-len-2 : goal.returns-else-index-len-2
returns-else-index-len-2 c = search (above_length, rules)
