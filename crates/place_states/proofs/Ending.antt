-- A finished state stands for its goal, and a 30 with nothing behind it is taken back: its position is one past the base, any other further.
-- Assumes nothing.
use Rattle.std.proofs.Common.{◌≡◌, ℕ, ◌+◌, ◌^◌, ◌<◌, ◌≤◌, List, [], ◌∷◌, length, refl, arith}
use Rattle.std.specs.Prelude.{Ok}
use Rattle.definitions.specs.Usage.{Usage, nodes}
use Rattle.definitions.specs.Table.{Setting}
use Rattle.definitions.specs.Place.{Result, done, of_rule}
use Rattle.record_links.proofs.Chains.{chain_zero}
use Rattle.record_links.proofs.Frames.{kept_none}
use Rattle.record_links.proofs.Stands.{stands_le, stands_wide}
use Rattle.report.specs.Emitted.{Emitted}
use Rattle.report.proofs.Emitting.{emitted_back}
use Rattle.report.specs.declared.Report.{Report}
use Rattle.place_states.specs.Calls.{Two, Ground, Done, ground}
use Rattle.place_states.specs.Continuation.{Continuation, finish, outer}
use Rattle.place_states.specs.States.{SoFar, Next, Short, Moves}
use Rattle.place_states.specs.Finished.{finished_state, Unheaded}
use Rattle.place_states.specs.declared.State.{State}

module _ (setting : Setting) (g : Ground) (n : ℕ) (s : List ℕ) (rep : Report) (a : ℕ) where
  pub next_finished : (goal : Result Usage) (x p : ℕ) → Done goal g s (Ok (record { node = x; pairings = p })) rep → Next setting goal g n s rep a (finished_state x p)
  next_finished goal x p D = record { ahead = D }

-- a placing that leaves its receiver as it was, with w reported
pub next_kept : (setting : Setting) {k : ℕ} {s : List ℕ} {a b : ℕ} {r : ℕ → ℕ} {lo mid hi : ℕ} {t u : Usage} → Two k s a b r lo mid hi t u → (n : ℕ) (w : List ℕ) {rep rep' : Report} → Emitted rep w rep'
    → Next setting (done t w 1) (ground s r lo hi rep) n s rep' a (finished_state a 1)
next_kept setting {s} {a} {b} {r} {lo} {mid} {hi} {t} {u} two n w {rep} {rep'} E =
    let high = stands_le u s b r mid hi two.right in
    next_finished setting (ground s r lo hi rep) n s rep' a (done t w 1) a 1 (record {
      rank = r;
      kept = kept_none s r lo hi;
      stands = stands_wide t s a r lo mid lo hi (omega arith) (omega arith) two.left;
      pairs = refl;
      report = E;
    })

-- a step that ends the placing: nothing comes after it
pub moves_finished : (s : List ℕ) (rep : Report) (a : ℕ) (st : State) (s' : List ℕ) (rep' : Report) (st' : State) (x p : ℕ) → st' ≡ finished_state x p
    → ((setting : Setting) (y : Continuation) (u : Usage) (w : List ℕ) (q : ℕ) (g : Ground) (n : ℕ) → nodes u + outer y ≤ n
    → SoFar (length setting.table) y u w q g s rep a st → Short g.report.at (finish setting y u w q) → Next setting (finish setting y u w q) g n s' rep' a (finished_state x p))
    → Moves s rep a st s' rep' st'
moves_finished s rep a st s' rep' st' x p e N = rw e (record { fall = omega (arith, chain_zero 65536 s'); next = N })

pub emitted_unheaded : (w : List ℕ) {r₀ r r' : Report} → Emitted r₀ (0x30 ∷ w) r → r₀.at + length (of_rule w) < 2 ^ 63 → Unheaded r₀.at r r' → Emitted r₀ (of_rule w) r'
emitted_unheaded [] {r₀} E short U = rw (U.empty E.place) (emitted_back [] (0x30 ∷ []) E (omega arith) (λ _. omega arith))
emitted_unheaded (x ∷ xs) E short U = rw (U.other (λ same. omega (arith, E.place))) E
