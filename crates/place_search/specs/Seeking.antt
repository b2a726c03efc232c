-- How far the search has come: the entries that it has stepped over, and those that are still linked from a record on.
-- Assumes nothing.
use Rattle.std.specs.Prelude.{ℕ, ◌+◌, ◌*◌, ◌≤◌, ◌≡◌, Bool, true, false, List, length, Result as Returned}
use Rattle.definitions.specs.Usage.{Size, fixed, Entries, none, count}
use Rattle.definitions.specs.Place.{ends, ◌≤ˢ◌}
use Rattle.records.specs.Records.{size_in, offset_in}
use Rattle.record_links.specs.Standing.{Row}
use Rattle.record_links.specs.Rows.{Up, link, onto}
use Rattle.place_search.specs.Numbers.{Denotes}
use Rattle.place_search.specs.Parts.{LastEndsBy, Parted, Told}
use Rattle.place_search.specs.declared.Overlap.{Overlap}

-- some entries are linked from record q on; k of at most 511 come before them
pub record Linked (s : List ℕ) (q k : ℕ) : Type 0 where
  pub es : Entries
  pub r : ℕ → ℕ
  pub lo : ℕ
  pub hi : ℕ
  pub row : Row es s q 0 r lo hi
  pub few : k + count es ≤ 511
  pub linkable : length s ≤ 2097152

-- record p is there, or p is 0
pub record Within (s : List ℕ) (p : ℕ) : Type 0 where
  pub inside : (p ≡ 0 → ⊥) → p * 32 + 32 ≤ length s

-- there is an entry at record p, and it starts before e
pub record Early (s : List ℕ) (e p : ℕ) : Type 0 where
  pub some : p ≡ 0 → ⊥
  pub starts : (z : Size) → Denotes e z → (z ≤ˢ fixed (offset_in s p)) ≡ false

-- no entry is left at record p, or it starts at e or later
pub record Stopped (s : List ℕ) (e p : ℕ) : Type 0 where
  pub starts : (p ≡ 0 → ⊥) → (z : Size) → Denotes e z → (z ≤ˢ fixed (offset_in s p)) ≡ true

-- r says which
pub record Before (s : List ℕ) (e p : ℕ) (r : Bool) : Type 0 where
  pub early : r ≡ true → Early s e p
  pub stopped : r ≡ false → Stopped s e p

-- where r is true, the entry at record p starts before e and ends by d
pub record Passes (s : List ℕ) (p d e : ℕ) (r : Bool) : Type 0 where
  pub early : r ≡ true → Early s e p
  pub ends : r ≡ true → (ends (offset_in s p) (size_in s p) ≤ˢ fixed d) ≡ true

-- es, the entries of the map at record a, are those up to low, of which the last starts before z and ends by d, and those from q on
pub record Begun (es : Entries) (r : ℕ → ℕ) (lo hi : ℕ) (s : List ℕ) (a d : ℕ) (z : Size) (low q : ℕ) : Type 0 where
  pub below : Entries
  pub rest : Entries
  pub m : ℕ
  pub is : es ≡ onto below rest
  pub up : Up below s a low r lo m
  pub linked : link s a low ≡ q
  pub row : Row rest s q 0 r m hi
  pub ended : LastEndsBy d z (onto below none)

-- whatever had begun so at q has begun so at q'
pub record Skips (s : List ℕ) (d e low q low' q' : ℕ) : Type 0 where
  pub there : Linked s q' 0
  pub skips : (z : Size) (es : Entries) (r : ℕ → ℕ) (lo hi a : ℕ) → Denotes e z → Begun es r lo hi s a d z low q → Begun es r lo hi s a d z low' q'

-- whatever had begun so is parted by b
pub record Sought (s : List ℕ) (d e low q : ℕ) (b : Returned Overlap Overlap) : Type 0 where
  pub sought : (z : Size) (es : Entries) (r : ℕ → ℕ) (lo hi a : ℕ) → Denotes e z → Begun es r lo hi s a d z low q → Told (Parted es r lo hi s a d z) b
