-- `Writer::hex_digits` meets its contract: each turn puts the two digits of one byte more.
use Rattle.std.proofs.Common.{refl}
use Rattle.merge_line.proofs.Showing.{put_digits_more}
use Rattle.merge_line.proofs.Writer.hex_digits.Goals as goal

pub loop-b-preserved : goal.loop-b-preserved
loop-b-preserved c = put_digits_more _ _ _ _ _ _ _ _ _ c.loop-b.invariant c.loop-b-test.true refl c.hex_digit.ensures c.byte.ensures c.hex_digit-in-loop-b.ensures c.byte-in-loop-b.ensures
