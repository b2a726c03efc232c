-- `Writer::number` meets its contract: the space stands behind the digits.
use Rattle.std.proofs.Common.{◌∙◌, arith}
use Rattle.merge_line.proofs.Showing.{put_number}
use Rattle.merge_line.proofs.Writer.number.Goals as goal

pub returns : goal.returns
returns c = put_number _ _ _ c.args.n _ (c.as_bytes.ensures.value ∙ c.format.ensures.text) (omega arith) c.bytes.ensures c.byte.ensures
