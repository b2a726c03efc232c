-- States that are finished, and how the report then ends.
-- Assumes nothing.
use Rattle.std.specs.Prelude.{ℕ, ◌+◌, ◌%◌, ◌^◌}
use Rattle.report.specs.Emitted.{TakenBack}
use Rattle.report.specs.declared.Report.{Report}
use Rattle.place_states.specs.declared.Merged.{Merged}
use Rattle.place_states.specs.declared.State.{State}
use Rattle.place_states.specs.declared.TheConstants.State.{NONE}

-- the result is record x
abbrev pub finished_state : ℕ → ℕ → State
finished_state x pairings = record NONE { x = x; pairings = pairings }

-- what a finished state gives
abbrev pub merged_of : State → Merged
merged_of st = record { node = st.x; pairings = st.pairings }

-- how a report r that began at `base` goes on: a 30 with nothing behind it is taken back
abbrev pub Unheaded : ℕ → Report → Report → Type 0
Unheaded base r r' = TakenBack ((base + 1) % 2 ^ 64) base r r'
