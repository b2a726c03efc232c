-- Usages and entries that stand in records, within the bytes, and what is answered of whichever stand there.
-- Assumes nothing.
use Rattle.std.specs.Prelude.{ℕ, ◌+◌, ◌*◌, ◌<◌, ◌≤◌, ◌≡◌, Bool, List, length}
use Rattle.definitions.specs.Usage.{Size, fixed, Usage, Entries, nodes, nodes_in}
use Rattle.definitions.specs.Sound.{sound}
use Rattle.records.specs.Records.{count_in}
use Rattle.records.specs.Usages.{At, EntriesAt}
use Rattle.soundness.specs.Own.{following, own}

-- a usage stands from record q on
pub record UsageFrom (s : List ℕ) (q : ℕ) : Type 0 where
  pub usage : Usage
  pub offset : ℕ
  pub stands : At usage s q offset
  pub inside : (q + nodes usage) * 32 ≤ length s
  pub few : q + nodes usage ≤ 65536

-- entries stand from record `from` to record `to`
pub record EntriesFrom (s : List ℕ) (from to : ℕ) : Type 0 where
  pub entries : Entries
  pub stand : EntriesAt entries s from
  pub upto : from + nodes_in entries ≡ to
  pub inside : to * 32 ≤ length s
  pub few : to ≤ 65536

-- the first record past the usage at q
pub record Counted (s : List ℕ) (q end : ℕ) : Type 0 where
  pub upto : end ≡ q + count_in s q
  pub some : q < end
  pub inside : end * 32 ≤ length s
  pub few : end ≤ 65536

-- answers, of whichever entries or usage stand there

pub record Chained (s : List ℕ) (from to : ℕ) (y : Size) (r : Bool) : Type 0 where
  pub of : (es : Entries) → EntriesAt es s from → from + nodes_in es ≡ to → r ≡ following (fixed 0) y es

pub record Owned (s : List ℕ) (q : ℕ) (r : Bool) : Type 0 where
  pub of : (u : Usage) (o : ℕ) → At u s q o → r ≡ own u

pub record Tested (s : List ℕ) (q : ℕ) (r : Bool) : Type 0 where
  pub of : (u : Usage) (o : ℕ) → At u s q o → r ≡ sound u
