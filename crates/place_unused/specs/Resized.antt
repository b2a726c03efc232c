-- What rule 3 leaves.
use Rattle.std.specs.Prelude.{ℕ, List, Ok}
use Rattle.records.specs.Records.{command_in}
use Rattle.report.specs.declared.Report.{Report}
use Rattle.place_states.specs.Starts.{Plain, Starts}
use Rattle.place_states.specs.declared.State.{State}

-- rule 3 has begun, and ended: it drops the offset and reports nothing
pub record Resized (s : List ℕ) (a b : ℕ) (s' : List ℕ) (st : State) : Type 0 where
  pub starts : (d : ℕ) (rep : Report) → Plain (command_in s b) d → Starts s a d b rep s' rep (Ok st)
