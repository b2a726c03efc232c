-- `place_arrays::has_stride` meets its contract: three tests, one after the other. The check finds this alone; written out, a wrong answer
-- fails soon.
use Rattle.std.proofs.Common.{rules}
use Rattle.place_arrays.proofs.has_stride.Goals as goal

pub returns-then-eq : goal.returns-then-eq
returns-then-eq c = search rules
