-- What a state's turn says of what is ahead.
-- Assumes nothing.
use Rattle.std.proofs.Common.{◌≡◌, ℕ, List, subst}
use Rattle.std.specs.Prelude.{Ok}
use Rattle.definitions.specs.Usage.{Usage}
use Rattle.definitions.specs.Table.{Setting}
use Rattle.definitions.specs.Place.{Result}
use Rattle.report.specs.declared.Report.{Report}
use Rattle.place_states.specs.Calls.{Ground, Done}
use Rattle.place_states.specs.Finished.{merged_of}
use Rattle.place_states.specs.States.{Held, Pending, Ahead, Next}
use Rattle.place_states.specs.declared.State.{State}
use Rattle.place_states.specs.declared.Pairing.{Pairing}
use Rattle.place_states.specs.declared.Todo.{Todo}
use Rattle.place_states.specs.declared.Todo.TheVariants.{Finished, Go, Pair}

module _ {setting : Setting} {goal : Result Usage} {g : Ground} {n : ℕ} {s : List ℕ} {rep : Report} {a : ℕ} {st : State} (N : Next setting goal g n s rep a st) where
  ahead_at : (v : Todo) → st.todo ≡ v → Ahead v setting goal g n s rep a st
  ahead_at v e = subst (λ (x : Todo). Ahead x setting goal g n s rep a st) e N.ahead

  pub next_ends : st.todo ≡ Finished → Done goal g s (Ok (merged_of st)) rep
  next_ends e = ahead_at Finished e

  pub next_holds : st.todo ≡ Go → Held setting goal g n s rep a st
  next_holds e = ahead_at Go e

  pub next_pair : {how : Pairing} → st.todo ≡ Pair how → Pending how setting goal g n s rep a st
  next_pair {how} e = ahead_at (Pair how) e
