-- Parts of a map's entries: linked downwards, or told from the last of them down.
-- Assumes nothing.
use Rattle.std.specs.Prelude.{ℕ, zero, suc, ◌+◌, ◌≤◌, ◌≡◌, List, eqb}
use Rattle.definitions.specs.If.{when◌then◌else◌}
use Rattle.definitions.specs.Usage.{Entries, none, entry}
use Rattle.records.specs.Records.{command_in, next_in, child_in, offset_in}
use Rattle.record_links.specs.Standing.{Stands}

-- the entries es, told from the last of them to the first, before fs
unfoldable pub onto : Entries → Entries → Entries
onto none fs = fs
onto (entry o u es) fs = onto es (entry o u fs)

-- entries from the highest down, each linked to the one below it, the lowest to 0
unfoldable pub Down : Entries → List ℕ → ℕ → (ℕ → ℕ) → ℕ → ℕ → Type 0
Down none s q r lo hi = (q ≡ 0) × (lo ≤ hi)
Down (entry o u es) s q r lo hi = (m : ℕ) × (offset_in s q ≡ o) × Stands u s q r m hi × Down es s (next_in s q) r lo m

-- what follows the entry l of the map at record a; the first one where l is 0
unfoldable pub link : List ℕ → ℕ → ℕ → ℕ
link s a zero = child_in s a
link s a (suc l) = next_in s (suc l)

-- the entries of the map at record a up to l, told from the highest down and linked upwards
unfoldable pub Up : Entries → List ℕ → ℕ → ℕ → (ℕ → ℕ) → ℕ → ℕ → Type 0
Up none s a l r lo hi = (l ≡ 0) × (lo ≤ hi)
Up (entry o u es) s a l r lo hi = (m : ℕ) × (p : ℕ) × (offset_in s l ≡ o) × (link s a p ≡ l) × Stands u s l r m hi × Up es s a p r lo m

-- how many records are linked from q on, of at most k
unfoldable pub chain : ℕ → List ℕ → ℕ → ℕ
chain zero s q = 0
chain (suc k) s zero = 0
chain (suc k) s (suc q) = suc (chain k s (next_in s (suc q)))

-- the nodes that are linked below record q, it among them, at most k deep; and those of a row of entries
unfoldable mutual
  pub weigh : ℕ → List ℕ → ℕ → ℕ
  weigh zero s q = 0
  weigh (suc k) s q = suc (when eqb (command_in s q) 4 then weigh k s (child_in s q) else when eqb (command_in s q) 3 then weigh_row k s (child_in s q) else 0)

  pub weigh_row : ℕ → List ℕ → ℕ → ℕ
  weigh_row zero s q = 0
  weigh_row (suc k) s zero = 0
  weigh_row (suc k) s (suc q) = weigh k s (suc q) + weigh_row k s (next_in s (suc q))

-- the nodes of the usage at record q, of which there are fewer than 65,536 (`nodes_at_lem`); a map and its row take two steps each
unfoldable pub nodes_at : List ℕ → ℕ → ℕ
nodes_at s q = weigh 131072 s q
