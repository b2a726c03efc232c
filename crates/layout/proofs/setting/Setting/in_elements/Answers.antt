-- Where an element has a size, the tests of its end are the definition's.
use borrow.Author.Rules.{rules}
use Rattle.layout.proofs.Elements.{element_past_32_bits, ends_before, in_element_lem}
use Rattle.layout.proofs.setting.Setting.in_elements.Goals as goal

pub returns-in_err-checked_add : goal.returns-in_err-checked_add
returns-in_err-checked_add c =
    let z = c.in_ok-size.ensures in
    let h = c.in_err-checked_add.ensures in
    rw c.from_residual-in_err-checked_add.ensures (search (element_past_32_bits, rules))

pub returns-then-branch-end : goal.returns-then-branch-end
returns-then-branch-end c = let z = c.in_ok-size.ensures in let h = c.in_ok-checked_add.ensures in search (ends_before, rules)

pub returns : goal.returns
returns c = let z = c.in_ok-size.ensures in let h = c.in_ok-checked_add.ensures in search (in_element_lem, rules)
