-- Each answer is the first of the rules that the tests before it leave, and what is left is said by the last ones.
use Rattle.support.proofs.Rules.{not_concrete, unused_supported, leaf_supported, large_refused, left_open}
use Rattle.support.proofs.at_once.first_tests.Goals as goal

pub returns-in_default : goal.returns-in_default
returns-in_default c = not_concrete c.layout_of.ensures c.in_default.not-Concrete

pub returns-then-eq : goal.returns-then-eq
returns-then-eq c = unused_supported c.layout_of.ensures c.in-Concrete.is c.requires c.kind.ensures c.eq.ensures c.if-eq.true

pub returns-then-is_whole_leaf : goal.returns-then-is_whole_leaf
returns-then-is_whole_leaf c =
    leaf_supported c.layout_of.ensures c.in-Concrete.is c.requires c.kind.ensures c.eq.ensures c.if-eq.false
    c.is_whole_leaf.ensures c.if-is_whole_leaf.true

pub returns-then-too_large : goal.returns-then-too_large
returns-then-too_large c =
    let leaf = c.is_whole_leaf.ensures in
    let no_leaf = c.if-is_whole_leaf.false in
    large_refused c.layout_of.ensures c.in-Concrete.is c.requires c.kind.ensures c.eq.ensures c.if-eq.false leaf no_leaf
    c.max_size.ensures c.too_large.ensures c.if-too_large.true

pub returns : goal.returns
returns c =
    let leaf = c.is_whole_leaf.ensures in
    let no_leaf = c.if-is_whole_leaf.false in
    left_open c.layout_of.ensures c.in-Concrete.is c.requires c.kind.ensures c.eq.ensures c.if-eq.false leaf no_leaf
    c.max_size.ensures c.too_large.ensures c.if-too_large.false
