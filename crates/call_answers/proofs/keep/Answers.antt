-- `keep` meets its contract: what was written is given back, and a refused call leaves a report of zeros.
use lib.ListN.{length}
use Rattle.definitions.specs.Place.{done}
use Rattle.call_answers.specs.Writing.{unlike_report}
use Rattle.call_answers.proofs.Giving.{gives_cleared}
use Rattle.call_answers.proofs.keep.Goals as goal

pub returns : goal.returns
returns c =
    let a = c.args in
    let kept = c.cleared.ensures in
    gives_cleared a.output.now (length a.rep.now) (done a.first.now (unlike_report a.unlike) 0) c.write_first-r.result c.write_first-r.ensures
    c.write_first-r.auto.rep kept.same kept.answered kept.refused
