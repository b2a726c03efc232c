-- `hex_digit` meets its contract: 0 to 9, and then a to f.
use Rattle.merge_line.proofs.Showing.{low_digit, high_digit}
use Rattle.merge_line.proofs.hex_digit.Goals as goal

pub returns-then-n-lt10 : goal.returns-then-n-lt10
returns-then-n-lt10 c = low_digit _ c.if-n-lt10.true

pub returns-else-n-lt10 : goal.returns-else-n-lt10
returns-else-n-lt10 c = high_digit _ c.if-n-lt10.false
