-- `Writer::bytes` meets its contract: each turn puts one byte more.
use Rattle.std.proofs.Common.{refl}
use Rattle.merge_line.proofs.Showing.{put_one_more}
use Rattle.merge_line.proofs.Writer.bytes.Goals as goal

pub loop-b-preserved : goal.loop-b-preserved
loop-b-preserved c = put_one_more _ _ _ _ _ _ c.loop-b.invariant c.loop-b-test.true refl c.byte.ensures
