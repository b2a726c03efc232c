-- What is found among the entries from a record on: those that start before a place, and the last of them that ends by an offset.
-- Assumes nothing.
use Rattle.std.specs.Prelude.{ℕ, ◌+◌, ◌*◌, ◌≤◌, ◌≡◌, Bool, true, false, List, length}
use Rattle.definitions.specs.Usage.{Size, fixed, Usage, Entries, entry, size, ◌<+>◌}
use Rattle.definitions.specs.Place.{ends, ◌≤ˢ◌}
use Rattle.records.specs.Records.{next_in, offset_in}
use Rattle.record_links.specs.Standing.{Stands, Row}
use Rattle.place_search.specs.Numbers.{Denotes}
use Rattle.place_search.specs.Parts.{any_past, Crossing, Starts}
use Rattle.place_search.specs.Seeking.{Linked}
use Rattle.place_search.specs.declared.Overlap.{Overlap}

-- of es, which are linked from record q on, those before record p overlap, and the others start at e or later
pub record Above (es : Entries) (r : ℕ → ℕ) (lo hi : ℕ) (s : List ℕ) (q d e p : ℕ) : Type 0 where
  pub mid : Entries
  pub high : Entries
  pub n : ℕ
  pub is : es ≡ mid <+> high
  pub mid_held : Row mid s q p r lo n
  pub mid_crossing : (z : Size) → Denotes e z → Crossing d z mid
  pub high_held : Row high s p 0 r n hi
  pub high_starts : (z : Size) → Denotes e z → Starts z high

-- the one at record l starts before e and ends by d, and so it is with those behind it
pub record Behind (es : Entries) (r : ℕ → ℕ) (lo hi : ℕ) (s : List ℕ) (q d e l p : ℕ) : Type 0 where
  pub init : Entries
  pub u : Usage
  pub rest : Entries
  pub m : ℕ
  pub n : ℕ
  pub is : es ≡ init <+> entry (offset_in s l) u rest
  pub init_held : Row init s q l r lo m
  pub stands : Stands u s l r m n
  pub starts : (z : Size) → Denotes e z → (z ≤ˢ fixed (offset_in s l)) ≡ false
  pub ends : (ends (offset_in s l) (size u) ≤ˢ fixed d) ≡ true
  pub above : Above rest r n hi s (next_in s l) d e p

-- whatever entries are linked there; l is 0 where none ends by d
pub record Cuts (s : List ℕ) (q d e l p : ℕ) : Type 0 where
  pub none : l ≡ 0 → (es : Entries) (r : ℕ → ℕ) (lo hi : ℕ) → Row es s q 0 r lo hi → Above es r lo hi s q d e p
  pub one : (l ≡ 0 → ⊥) → (es : Entries) (r : ℕ → ℕ) (lo hi : ℕ) → Row es s q 0 r lo hi → Behind es r lo hi s q d e l p

-- some entries are linked from record q to record p, and some from there on
pub record Between (s : List ℕ) (q p : ℕ) : Type 0 where
  pub linked : Linked s q 0
  pub mid : Entries
  pub high : Entries
  pub r : ℕ → ℕ
  pub lo : ℕ
  pub m : ℕ
  pub hi : ℕ
  pub mid_held : Row mid s q p r lo m
  pub high_held : Row high s p 0 r m hi

-- b says whether one of the entries from record q to record p ends past 32 bits, whatever they are
pub record AnyPast (s : List ℕ) (q p : ℕ) (b : Bool) : Type 0 where
  pub of : (mid high : Entries) (r : ℕ → ℕ) (lo m hi : ℕ) → Row mid s q p r lo m → Row high s p 0 r m hi → b ≡ any_past mid

-- what comes behind the entry at l, and from q on where l is 0, goes up to record p
pub record Reaches (s : List ℕ) (q l p : ℕ) : Type 0 where
  pub none : l ≡ 0 → Between s q p
  pub one : (l ≡ 0 → ⊥) → (l * 32 + 32 ≤ length s) × Between s (next_in s l) p

-- b tells of these, and c whether one that overlaps ends past 32 bits
pub record Found (s : List ℕ) (low q l p : ℕ) (b : Overlap) (c : Bool) : Type 0 where
  pub none : l ≡ 0 → (b.low ≡ low) × (b.first ≡ q)
  pub one : (l ≡ 0 → ⊥) → (b.low ≡ l) × (b.first ≡ next_in s l)
  pub above : b.above ≡ p
  pub past : AnyPast s b.first p c
