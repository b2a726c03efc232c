-- `numbers::put_number` meets its contract. A width is 4, 2 or 0.
use mathlib.Core.Path.{◌≡◌, refl}
use native.Mathlib.Omega.{arith}
use Rattle.std.proofs.Common.{rules}
use Rattle.numbers.specs.Words.{put_at}
use Rattle.numbers.proofs.put_number.Goals as goal

pub returns-in_default : goal.returns-in_default
unfolding put_at
returns-in_default c = let none : c.args.w ≡ 0 = omega arith in rw none refl

pub returns-in-4 : goal.returns-in-4
unfolding put_at
returns-in-4 c = search rules
