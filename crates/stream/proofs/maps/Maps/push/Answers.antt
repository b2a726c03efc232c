-- `Maps::push` meets its contract: the level is written above the others, and there it stands.
use mathlib.Core.Path.{refl}
use native.Mathlib.Omega.{arith}
use Rattle.stream.proofs.Keeping.{push_top}
use Rattle.stream.proofs.maps.Maps.push.Goals as goal

pub returns : goal.returns
returns c =
    let a = c.args in
    push_top a.self a.window.now _ _ _ (omega arith) (omega arith) (omega arith) (omega arith)
    c.put16.ensures c.put32.ensures refl refl
