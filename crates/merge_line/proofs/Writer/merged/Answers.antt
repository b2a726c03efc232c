-- `Writer::merged` meets its contract: the call gives back what the definition has, within the buffers.
use mathlib.Core.Path.{subst}
use Rattle.merge_line.specs.Put.{Put}
use Rattle.merge_line.specs.Frame.{answer_line}
use Rattle.merge_line.proofs.Printing.{Merged, merge_given}
use Rattle.merge_line.proofs.Writer.merged.Goals as goal
use Rattle.merge_line.proofs.Writer.merged.Goals.{After-from}

merged : (c : After-from)
    → Merged c.args.parts.now.table.now c.args.parts.now.first.now c.args.parts.now.second.now c.from.result c.merge-merge.new.output c.merge-merge.new.rep
merged c =
    merge_given _ _ _ _ _ _ c.from.ensures c.zeros-work.ensures.length c.zeros-output.ensures.bytes c.zeros-rep.ensures.bytes c.merge-merge.ensures

pub answer-requires : goal.answer-requires
answer-requires c = let m = merged (goal.at.answer-requires c).After-from in (m.usage_fits, m.report_fits)

pub returns : goal.returns
returns c =
    let m = merged (goal.at.returns c).After-from in
    subst (λ written. Put c.args.self.now (answer_line written) c.answer.new.self) m.is c.answer.ensures
