-- Elements that are cut off, or of stride 0, are no record; others end after 21 bytes.
use native.Mathlib.Omega.{arith}
use borrow.Author.Rules.{rules}
use Rattle.layout.proofs.Ends.{no_elements, elements_ends}
use Rattle.layout.proofs.format.elements_end.Goals as goal

pub returns-in_err-end : goal.returns-in_err-end
returns-in_err-end c = let h = c.in_err-end.ensures in rw c.from_residual.ensures (search (no_elements, rules))

pub returns-then-get32-eq0 : goal.returns-then-get32-eq0
returns-then-get32-eq0 c = search (no_elements, rules)

pub returns : goal.returns
returns c = rw c.in_ok-end.ensures.1 (elements_ends _ _ c.in_ok-end.ensures.0 c.requires.1 (omega arith))
