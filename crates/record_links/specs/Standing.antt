-- Usages in linked records: a node's record names its first child, and the entries of a map name one another, the last one 0. Each
-- record has a rank, a number that no byte holds, such that the records of a usage have ranks from lo up to hi, the root's being the
-- lowest, and the entries of a map lie in intervals one above the other. So what is apart is apart by arithmetic.
-- Assumes nothing.
use Rattle.std.specs.Prelude.{ℕ, zero, suc, ◌+◌, ◌*◌, ◌≤◌, ◌<◌, ◌≡◌, List, length}
use Rattle.definitions.specs.Usage.{Size, Usage, unused, leaf, map, array, Entries, none, entry, count}
use Rattle.definitions.specs.Command.{head_of}
use Rattle.records.specs.Records.{command_in, next_in, child_in, size_in, argument_in, offset_in}

-- record q, of command k and size z, has a rank from lo up to hi
pub record Root (s : List ℕ) (q : ℕ) (r : ℕ → ℕ) (lo hi k : ℕ) (z : Size) : Type 0 where
  pub some : 1 ≤ q
  pub inside : q * 32 + 32 ≤ length s
  pub low : lo ≤ r q
  pub high : r q < hi
  pub command : command_in s q ≡ k
  pub size : size_in s q ≡ z

-- the record that comes i links behind record q
unfoldable pub walk : List ℕ → ℕ → ℕ → ℕ
walk s q zero = q
walk s q (suc i) = walk s (next_in s q) i

-- the i-th entry of the map at record a; 0 for none of them
unfoldable pub reached : List ℕ → ℕ → ℕ → ℕ
reached s a zero = 0
reached s a (suc i) = walk s (child_in s a) i

-- the finger of the map at record a is one of its entries, or 0
pub record Finger (es : Entries) (s : List ℕ) (a : ℕ) : Type 0 where
  pub index : ℕ
  pub upto : index ≤ count es
  pub is : argument_in s a ≡ reached s a index

-- record q is the usage u; entries are linked from record q to record e, upwards
unfoldable mutual
  pub Stands : Usage → List ℕ → ℕ → (ℕ → ℕ) → ℕ → ℕ → Type 0
  Stands (unused z) s q r lo hi = Root s q r lo hi (head_of (unused z)).command z
  Stands (leaf z k t) s q r lo hi = Root s q r lo hi (head_of (leaf z k t)).command z × (argument_in s q ≡ t)
  Stands (map z es) s q r lo hi = Root s q r lo hi (head_of (map z es)).command z × Finger es s q × Row es s (child_in s q) 0 r (suc (r q)) hi
  Stands (array z n e) s q r lo hi = Root s q r lo hi (head_of (array z n e)).command z × (argument_in s q ≡ n) × Stands e s (child_in s q) r (suc (r q)) hi

  pub Row : Entries → List ℕ → ℕ → ℕ → (ℕ → ℕ) → ℕ → ℕ → Type 0
  Row none s q e r lo hi = (q ≡ e) × (lo ≤ hi)
  Row (entry o u es) s q e r lo hi = (m : ℕ) × (offset_in s q ≡ o) × Stands u s q r lo m × Row es s (next_in s q) e r m hi
