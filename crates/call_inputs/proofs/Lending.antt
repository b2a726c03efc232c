-- Two usages that were loaded side by side are few enough for the report to stay short.
-- Assumes nothing.
use Prim.Native.Nat.{ℕ, ◌+◌, ◌≤◌}
use mathlib.Core.List.{List}
use native.Mathlib.Omega.{arith}
use Rattle.definitions.specs.Usage.{Usage}
use Rattle.record_links.specs.Rows.{nodes_at}
use Rattle.place_states.specs.Calls.{Two, NoWrap}
use Rattle.place_states.proofs.Starting.{two_nodes}

pub near_two : {k : ℕ} {s : List ℕ} {a b : ℕ} {r : ℕ → ℕ} {lo mid hi : ℕ} {t u : Usage} → Two k s a b r lo mid hi t u → (at : ℕ) → at ≤ 2305843009213693955 → NoWrap at (nodes_at s a + nodes_at s b)
near_two two at low =
    omega (arith, low, two.few, two_nodes two)
