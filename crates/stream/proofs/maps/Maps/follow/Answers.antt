-- `Maps::follow` meets its contract: the offset is held to the last one, and one entry fewer is left.
use mathlib.Core.Path.{refl}
use native.Mathlib.Omega.{arith}
use Rattle.stream.proofs.Following.{follow_falls, follow_next, follow_last}
use Rattle.stream.proofs.maps.Maps.follow.Goals as goal

pub returns-then-offset-self : goal.returns-then-offset-self
returns-then-offset-self c = let a = c.args in follow_falls a.self a.offset a.window.now (omega arith) (omega arith)

pub returns-then-self-eq1 : goal.returns-then-self-eq1
returns-then-self-eq1 c =
    let a = c.args in
    follow_last a.self a.offset a.window.now (omega arith) (omega arith) (omega arith) c.pop.result c.pop.ensures

pub returns : goal.returns
returns c =
    let a = c.args in
    follow_next a.self a.offset a.window.now (omega arith) (omega arith) c.if-self-eq1.false _ refl refl refl
    c.requires.0
