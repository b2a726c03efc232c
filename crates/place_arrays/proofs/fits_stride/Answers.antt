-- `place_arrays::fits_stride` meets its contract: sizes are compared in their order. The check finds this alone; written out, a wrong answer
-- fails soon.
use Rattle.std.proofs.Common.{rules}
use Rattle.place_arrays.proofs.fits_stride.Goals as goal

pub returns : goal.returns
returns c = search rules
