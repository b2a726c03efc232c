-- `write_first` meets its contract: 10 and 11 are decided, then the stream and the report are copied.
use mathlib.Core.Path.{refl, ap}
use native.Mathlib.Omega.{arith}
use lib.ListN.{length}
use Rattle.call_answers.specs.Writing.{unlike_report}
use Rattle.call_answers.proofs.Giving.{comes_10, comes_11, comes_written}
use Rattle.call_answers.proofs.Keeping.{reported}
use Rattle.call_answers.proofs.write_first.Goals as goal

pub returns-then-output-first : goal.returns-then-output-first
returns-then-output-first c =
    let a = c.args in comes_10 a.output.now (length a.rep.now) a.first.now (unlike_report a.unlike) 0 c.if-output-first.true

pub returns-then-rep-report : goal.returns-then-rep-report
returns-then-rep-report c =
    let a = c.args in
    let is = c.unlike_report-report.ensures in
    comes_11 a.output.now (length a.rep.now) a.first.now (unlike_report a.unlike) 0 c.if-output-first.false (omega (arith, ap length is, c.if-rep-report.true))

pub returns : goal.returns
returns c =
    let a = c.args in
    let is = c.unlike_report-report.ensures in
    let w = c.unlike_report-report.result.now in
    rw (← is)
    (comes_written a.output.now (length a.rep.now) a.first.now w 0 c.if-output-first.false c.if-rep-report.false _ refl refl refl
    c.copy.ensures
    (reported w a.rep.now c.copy-2.ensures c.if-rep-report.false c.zero.ensures))
