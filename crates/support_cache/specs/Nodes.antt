-- The nodes of a usage that stands in linked records: which records they are, and that they remember nothing.
-- Assumes nothing.
use Rattle.std.specs.Prelude.{◌≡◌, ℕ, ◌+◌, ◌*◌, ◌<◌, ◌≤◌, List, length, ◌≢◌}
use Rattle.definitions.specs.Limits.{node_limit}
use Rattle.definitions.specs.Usage.{Usage, nodes}
use Rattle.records.specs.Records.{command_in, next_in, child_in, tag_in, cell}
use Rattle.record_links.specs.Standing.{Stands}

-- some usage is record q, whose number fits two bytes
pub record UsageAt (s : List ℕ) (q : ℕ) : Type 0 where
  pub usage : Usage
  pub rank : ℕ → ℕ
  pub lo : ℕ
  pub hi : ℕ
  pub stands : Stands usage s q rank lo hi
  pub few : nodes usage ≤ node_limit
  pub within : q * 32 + 32 ≤ length s
  pub numbered : q < 65536

-- each record says what it said, so that each usage stands where it stood
pub record Unchanged (s s' : List ℕ) : Type 0 where
  pub len : length s' ≡ length s
  pub same : (i : ℕ) → cell s' i ≡ cell s i

-- record i is linked from record q on: it, or one that comes after it
pub data Along (s : List ℕ) : ℕ → ℕ → Type 0 where
  first : (q : ℕ) → (q ≢ 0) → Along s q q
  later : (q i : ℕ) → (q ≢ 0) → Along s (next_in s q) i → Along s q i

-- record e is the element of record q, or one of its entries
pub data Child (s : List ℕ) (q e : ℕ) : Type 0 where
  element : command_in s q ≡ 4 → e ≡ child_in s q → Child s q e
  entry : command_in s q ≡ 3 → Along s (child_in s q) e → Child s q e

-- record i is a node of the usage at record q
pub data Below (s : List ℕ) : ℕ → ℕ → Type 0 where
  root : (q : ℕ) → Below s q q
  inside : (q e i : ℕ) → Child s q e → Below s e i → Below s q i

-- the nodes of the usage at record q remember nothing
pub record Blank (s : List ℕ) (q : ℕ) : Type 0 where
  pub tags : (i : ℕ) → Below s q i → tag_in s i ≡ 0

-- and no node has come to remember anything
pub record Forgotten (s s' : List ℕ) (q : ℕ) : Type 0 where
  pub records : Unchanged s s'
  pub blank : Blank s' q
  pub stays : (i : ℕ) → tag_in s i ≡ 0 → tag_in s' i ≡ 0
