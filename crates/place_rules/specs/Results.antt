-- What the test of sizes answers, and what a pair that has been placed or merged leaves.
-- Assumes nothing.
use Rattle.std.specs.Prelude.{◌≡◌, ℕ, ◌+◌, ◌%◌, ◌^◌, Result, Ok, Err}
use Rattle.report.specs.Emitted.{TakenBack}
use Rattle.report.specs.declared.Report.{Report}
use Rattle.place_states.specs.Refusals.{number_of}
use Rattle.place_states.specs.declared.Merged.{Merged}
use Rattle.place_states.specs.declared.SizeRefusal.{SizeRefusal}
use Rattle.place_states.specs.declared.State.{State}
use Rattle.place_states.specs.declared.Todo.TheVariants.{Go}

-- the refusal's number, or 0
abbrev pub number_in : {A : Type 0} → Result A SizeRefusal → ℕ
number_in (Ok x) = 0
number_in (Err e) = number_of e

-- what the pair has become is m's record
abbrev pub held_state : State → Merged → ℕ → ℕ → State
held_state st m pairings mark = record st { todo = Go; x = m.node; pairings = pairings; mark = mark }

-- the pair's own report began at `here`, behind its 31
pub record TakesResult (st : State) (here : ℕ) (m : Merged) (rep rep' : Report) (t : State) : Type 0 where
  pub on : TakenBack here st.mark rep rep'
  pub state : t ≡ held_state st m ((st.pairings + m.pairings) % 2 ^ 32) rep'.at
