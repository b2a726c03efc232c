-- The sum is tested before the sizes are compared.
use Rattle.place_rules.proofs.Sizes.{size_past, size_larger, size_fits}
use Rattle.place_rules.proofs.size_refusal.Goals as goal

pub returns-in-None : goal.returns-in-None
returns-in-None c = size_past _ _ _ _ c.in-Fixed-Fixed.is-0 _ c.in-Fixed-Fixed.is-1 c.in-None.ensures

pub returns-in-Some : goal.returns-in-Some
returns-in-Some c = size_larger _ _ _ _ c.in-Fixed-Fixed.is-0 _ c.in-Fixed-Fixed.is-1 _ c.in-Some.ensures c.if-m-end.true

pub returns-in-Some-2 : goal.returns-in-Some-2
returns-in-Some-2 c = size_fits _ _ _ _ c.in-Fixed-Fixed.is-0 _ c.in-Fixed-Fixed.is-1 _ c.in-Some.ensures c.if-m-end.false
