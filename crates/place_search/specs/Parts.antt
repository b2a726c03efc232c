-- What the search for the entries that overlap finds: those below, those that overlap, and those above.
-- Assumes nothing.
use Rattle.std.specs.Prelude.{ℕ, suc, ◌+◌, ◌*◌, ◌≤◌, ◌≡◌, Bool, true, false, ◌||◌, List, length, Result as Returned, Ok, Err}
use Rattle.definitions.specs.Limits.{node_limit}
use Rattle.definitions.specs.Usage.{Size, fixed, Usage, Entries, none, entry, size, nodes_in, ◌<+>◌}
use Rattle.definitions.specs.Place.{ends, past32, ◌≤ˢ◌}
use Rattle.records.specs.Records.{child_in}
use Rattle.record_links.specs.Standing.{Finger, Row}
use Rattle.record_links.specs.Rows.{Up, link, onto}
use Rattle.place_search.specs.Numbers.{Denotes}
use Rattle.place_search.specs.declared.Overlap.{Overlap}

-- some entries are linked below record a, few enough for the largest table
pub record Listed (s : List ℕ) (a : ℕ) : Type 0 where
  pub es : Entries
  pub r : ℕ → ℕ
  pub lo : ℕ
  pub hi : ℕ
  pub row : Row es s (child_in s a) 0 r lo hi
  pub finger : Finger es s a
  pub few : suc (nodes_in es) ≤ node_limit
  pub inside : a * 32 + 32 ≤ length s
  pub linkable : length s ≤ 2097152

-- one of them ends past 32 bits
abbrev pub any_past : Entries → Bool
any_past none = false
any_past (entry o u es) = past32 (ends o (size u)) || any_past es

-- each starts before e and ends past d
abbrev pub Crossing : ℕ → Size → Entries → Type 0
Crossing d e none = Unit {0}
Crossing d e (entry o u es) = ((e ≤ˢ fixed o) ≡ false) × ((ends o (size u) ≤ˢ fixed d) ≡ false) × Crossing d e es

-- none; or the last of them starts before e and ends by d
pub data LastEndsBy (d : ℕ) (e : Size) : Entries → Type 0 where
  nothing : LastEndsBy d e none
  by : (es : Entries) (o : ℕ) (u : Usage) → (e ≤ˢ fixed o) ≡ false → (ends o (size u) ≤ˢ fixed d) ≡ true → LastEndsBy d e (es <+> entry o u none)

-- none; or the first of them starts at e or later
abbrev pub Starts : Size → Entries → Type 0
Starts e none = Unit {0}
Starts e (entry o u es) = (e ≤ˢ fixed o) ≡ true

-- es, the entries of the map at record a, are those below, those that overlap what starts at d and ends at e, and those above; past says whether
-- one that overlaps ends past 32 bits
pub record Parted (es : Entries) (r : ℕ → ℕ) (lo hi : ℕ) (s : List ℕ) (a d : ℕ) (e : Size) (b : Overlap) (past : Bool) : Type 0 where
  pub low_down : Entries
  pub mid : Entries
  pub high : Entries
  pub m : ℕ
  pub n : ℕ
  pub is : es ≡ onto low_down none <+> mid <+> high
  pub low_held : Up low_down s a b.low r lo m
  pub linked : link s a b.low ≡ b.first
  pub low_ended : LastEndsBy d e (onto low_down none)
  pub mid_held : Row mid s b.first b.above r m n
  pub mid_crossing : Crossing d e mid
  pub mid_past : past ≡ any_past mid
  pub high_held : Row high s b.above 0 r n hi
  pub high_starts : Starts e high

-- P of what was found; it is an error where an entry that overlaps ends past 32 bits
abbrev pub Told : (Overlap → Bool → Type 0) → Returned Overlap Overlap → Type 0
Told P (Ok b) = P b false
Told P (Err b) = P b true

-- whatever entries are linked there, and whatever place the number e stands for
pub record Parts (s : List ℕ) (a d e : ℕ) (b : Returned Overlap Overlap) : Type 0 where
  pub parted : (z : Size) (es : Entries) (r : ℕ → ℕ) (lo hi : ℕ) → Denotes e z → Row es s (child_in s a) 0 r lo hi → Finger es s a → Told (Parted es r lo hi s a d z) b
