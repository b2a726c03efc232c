-- `write_merged` meets its contract: a refusal is told as such; else a usage stands, and 10 and 11 are decided before anything is written.
use mathlib.Core.Path.{refl}
use native.Mathlib.Omega.{arith}
use Rattle.call_answers.proofs.Finishing.{standing, length_small, fitting, finished_10, finished_11, finished_written}
use Rattle.call_answers.proofs.write_merged.Goals as goal

pub written_length-usage-requires : goal.written_length-usage-requires
written_length-usage-requires c = standing c.in_ok-merged.was c.requires

pub overflow_add-usage : goal.overflow_add-usage
overflow_add-usage c = omega (arith, length_small (standing c.in_ok-merged.was c.requires) c.written_length-usage.ensures)

pub returns-then-output-usage : goal.returns-then-output-usage
returns-then-output-usage c = rw c.in_ok-merged.was (finished_10 c.written_length-usage.ensures c.if-output-usage.true)

pub returns-then-report-length : goal.returns-then-report-length
returns-then-report-length c = rw c.in_ok-merged.was (finished_11 c.written_length-usage.ensures c.if-output-usage.false c.if-report-length.true)

pub write-requires : goal.write-requires
write-requires c = fitting (standing c.in_ok-merged.was c.requires) c.written_length-usage.ensures c.args.command c.args.output.now c.if-output-usage.false

pub returns : goal.returns
returns c =
    rw c.in_ok-merged.was
    (finished_written c.written_length-usage.ensures c.if-output-usage.false c.if-report-length.false c.write.ensures c.zero.ensures
    (record { size = c.zero.auto.rep; name = refl }))
