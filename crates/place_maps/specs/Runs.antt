-- Entries that are linked the other way round.
-- Assumes nothing.
use Rattle.std.specs.Prelude.{ℕ, ◌+◌, ◌<◌, ◌≤◌, ◌≡◌, Bool, true, false, not, List, length}
use Rattle.definitions.specs.Limits.{node_limit}
use Rattle.definitions.specs.Usage.{Entries, count}
use Rattle.record_links.specs.Standing.{Row}
use Rattle.record_links.specs.Rows.{Down, onto}
use Rattle.record_links.specs.Frames.{Kept}

-- entries that are linked from q to e: upwards, in the ranks from n on up to m; or downwards, in those from m up to n, and e is 0
abbrev pub Line : Bool → Entries → List ℕ → ℕ → ℕ → (ℕ → ℕ) → ℕ → ℕ → Type 0
Line true es s q e r n m = Row es s q e r n m
Line false es s q e r n m = Down es s q r m n × (e ≡ 0)

-- of n and m, the one that is passed first on the way up
abbrev pub lower : Bool → ℕ → ℕ → ℕ
lower true n m = n
lower false n m = m

-- one way es, linked from q to e, and fs behind them; the other way gs, from p on
pub record Ahead (up : Bool) (es fs gs : Entries) (r : ℕ → ℕ) (y n m z : ℕ) (s : List ℕ) (q e p : ℕ) : Type 0 where
  pub run : Line up es s q e r n m
  pub rest : Line up fs s e 0 r m z
  pub back : Line (not up) gs s p 0 r n y

-- so some are linked there, few enough for the largest table
pub record Run (s : List ℕ) (q e p : ℕ) : Type 0 where
  pub up : Bool
  pub es : Entries
  pub fs : Entries
  pub gs : Entries
  pub r : ℕ → ℕ
  pub y : ℕ
  pub n : ℕ
  pub m : ℕ
  pub z : ℕ
  pub ahead : Ahead up es fs gs r y n m z s q e p
  pub few : count es + count fs ≤ node_limit
  pub linkable : length s ≤ 2097152

-- es are linked the other way, before gs, from x on
pub record Back (up : Bool) (es gs : Entries) (r : ℕ → ℕ) (y n m : ℕ) (s s' : List ℕ) (x : ℕ) : Type 0 where
  pub line : Line (not up) (onto es gs) s' x 0 r m y
  pub kept : Kept s r s' r (lower up n m) (lower up m n)

-- whatever entries are linked there
pub record Reversed (s : List ℕ) (q e p : ℕ) (s' : List ℕ) (x : ℕ) : Type 0 where
  pub small : x < 65536
  pub back : (up : Bool) (es fs gs : Entries) (r : ℕ → ℕ) (y n m z : ℕ) → Ahead up es fs gs r y n m z s q e p → Back up es gs r y n m s s' x
