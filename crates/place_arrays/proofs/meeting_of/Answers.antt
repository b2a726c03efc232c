-- `place_arrays::meeting_of` meets its contract. The stride, which is not 0, and b's size and stride are read as they stand.
use Rattle.std.proofs.Common.{rules}
use Rattle.place_arrays.proofs.Tests.{meets_inside, meets_elements, meets_apart}
use Rattle.place_arrays.proofs.Strides.{stride_some, rest_within}
use Rattle.place_arrays.proofs.meeting_of.Goals as goal

pub nonzero_rem-r : goal.nonzero_rem-r
nonzero_rem-r c = search (stride_some, rules)

pub fits_stride-requires : goal.fits_stride-requires
fits_stride-requires c = search (rest_within, rules)

pub returns-then-fits_stride : goal.returns-then-fits_stride
returns-then-fits_stride c = search (meets_inside, rules)

pub returns-then-has_stride : goal.returns-then-has_stride
returns-then-has_stride c = search (meets_elements, rules)

pub returns : goal.returns
returns c = search (meets_apart, rules)
