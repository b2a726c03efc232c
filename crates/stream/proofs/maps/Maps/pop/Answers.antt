-- `Maps::pop` meets its contract: what is read are the numbers of the uppermost level.
use mathlib.Core.Path.{refl, sym}
use native.Mathlib.Omega.{arith}
use Rattle.stream.proofs.Keeping.{pop_none, pop_top}
use Rattle.stream.proofs.maps.Maps.pop.Goals as goal

pub returns-then-outer-eq0 : goal.returns-then-outer-eq0
returns-then-outer-eq0 c = pop_none _ _ _ c.if-outer-eq0.true refl (sym c.if-outer-eq0.true)

pub returns : goal.returns
returns c =
    pop_top _ _ _ (omega (arith, c.get16.ensures)) (omega arith) c.if-outer-eq0.false
    (omega (arith, c.from.ensures, c.get16.ensures)) c.get32.ensures refl
