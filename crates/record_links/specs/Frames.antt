-- What a change of linked records leaves alone.
-- Assumes nothing.
use Rattle.std.specs.Prelude.{ℕ, ◌≤◌, ◌<◌, ◌≡◌, List, length}
use Rattle.records.specs.Records.{cell}

-- outside of the ranks from lo to hi nothing has changed, neither records nor ranks, and what was inside is inside
pub record Kept (s : List ℕ) (r : ℕ → ℕ) (s' : List ℕ) (r' : ℕ → ℕ) (lo hi : ℕ) : Type 0 where
  pub len : length s' ≡ length s
  pub outs : (i : ℕ) → (lo ≤ r i → r i < hi → ⊥) → (cell s' i ≡ cell s i) × (r' i ≡ r i)
  pub ins : (i : ℕ) → lo ≤ r i → r i < hi → (lo ≤ r' i) × (r' i < hi)

-- where the ranks are from lo to hi nothing has changed
abbrev pub Still : List ℕ → (ℕ → ℕ) → List ℕ → (ℕ → ℕ) → ℕ → ℕ → Type 0
Still s r s' r' lo hi = (i : ℕ) → lo ≤ r i → r i < hi → (cell s' i ≡ cell s i) × (r' i ≡ r i)
