-- `Writer::answer` meets its contract: its four pieces stand behind one another.
use Rattle.merge_line.proofs.Printing.{answer_put}
use Rattle.merge_line.proofs.Writer.answer.Goals as goal

pub returns : goal.returns
returns c = let a = c.args in answer_put a.a a.output.now a.rep.now c.number.ensures c.number-2.ensures c.text.ensures c.text-2.ensures
