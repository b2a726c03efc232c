-- The open maps that a walk keeps: the innermost in two numbers, those around it in a window of bytes.
-- Assumes nothing.
use Rattle.std.specs.Prelude.{ℕ, zero, suc, max, ◌+◌, ◌*◌, ◌≤◌, ◌≡◌, List, [], ◌∷◌, Option, Some, None, length}
use Rattle.definitions.specs.Command.{Head}
use Rattle.definitions.specs.Stream.{Read, broken, read, number}
use Rattle.numbers.specs.Words.{number_at, word}
use Rattle.stream.specs.Walk.{Level, level, total, Sum, owing, pending, ToRead, entries_of, own_bound}
use Rattle.stream.specs.declared.maps.Maps.{Maps}

-- the lowest d levels of a window, the uppermost first: each has an entry left
unfoldable pub kept : List ℕ → ℕ → List Level
kept w zero = []
kept w (suc d) = level (suc (number_at 2 w (d * 6))) (suc (word w (d * 6 + 2))) ∷ kept w d

-- all open maps
abbrev pub levels : Maps → List ℕ → List Level
levels m w = level m.left (suc m.last) ∷ kept w m.outer

-- the window has the levels that are said to be there
pub record Held (m : Maps) (w : List ℕ) : Type 0 where
  pub room : m.outer * 6 ≤ length w
  pub small : m.left ≤ 65536
  pub inner : m.left ≡ 0 → m.outer ≡ 0

-- the uppermost of d levels is taken for the innermost
pub record Popped (d : ℕ) (w : List ℕ) (m : Maps) : Type 0 where
  pub held : Held m w
  pub same : (n t k : ℕ) (bs : List ℕ) → owing n t (kept w d) k bs ≡ owing n t (levels m w) k bs
  pub count : total (kept w d) ≡ total (levels m w)

-- the innermost goes to the window, and a map without entries is the innermost
pub record Pushed (m : Maps) (w w' : List ℕ) (m' : Maps) : Type 0 where
  pub room : m'.outer * 6 ≤ length w'
  pub empty : m'.left ≡ 0
  pub same : kept w' m'.outer ≡ levels m w

-- behind the offset o of their next entry, the maps ls are the maps ls'
pub record Followed (ls : List Level) (o : ℕ) (ls' : List Level) : Type 0 where
  pub same : (n t k : ℕ) (bs rest : List ℕ) → number 4 bs ≡ read o rest → owing n t ls k bs ≡ pending n t ls' k rest
  pub count : total ls ≡ suc (total ls')

-- the maps behind that offset, or that it breaks their order
abbrev pub Follows : Maps → ℕ → List ℕ → Option Maps → Type 0
Follows m o w (Some m') = Held m' w × Followed (levels m w) o (levels m' w)
Follows m o w None = (n t k : ℕ) (bs rest : List ℕ) → number 4 bs ≡ read o rest → owing n t (levels m w) k bs ≡ broken

-- where the walk stands among maps ls, nothing is to be read
abbrev pub Lost : List ℕ → ℕ → List Level → Type 0
Lost s at ls = (x : Read Sum) (owed n t : ℕ) → ToRead x s at owed ls n t → x ≡ broken

-- room for one more map at `at`, which a map without entries keeps free
pub record Roomy (s : List ℕ) (at : ℕ) (m : Maps) (w w' : List ℕ) (m' : Maps) : Type 0 where
  pub room : m'.outer * 6 ≤ length w'
  pub empty : m'.left ≡ 0
  pub on : (x : Read Sum) (owed n t : ℕ) → ToRead x s at owed (levels m w) n t → ToRead x s at owed (levels m' w') n t

-- the same, or that the order of the open maps is broken
abbrev pub Makes : List ℕ → ℕ → Maps → List ℕ → List ℕ → Option Maps → Type 0
Makes s at m w w' (Some m') = Roomy s at m w w' m'
Makes s at m w w' None = Lost s at (levels m w)

-- the walk goes on from an own part h at `at` that ends at `end`, to the node of the next entry
pub record Entered (s : List ℕ) (at : ℕ) (h : Head) (end : ℕ) (m : Maps) (w w' : List ℕ) (m' : Maps) : Type 0 where
  pub held : Held m' w'
  pub on : (x : Read Sum) (owed owing n t : ℕ) → entries_of h + owed ≡ suc owing → ToRead x s at owed (levels m w) n t
      → ToRead x s (end + 4) owing (levels m' w') (n + 1) (max t (own_bound h))

-- the same, or that the order of the open maps is broken
abbrev pub Enters : List ℕ → ℕ → Head → ℕ → Maps → List ℕ → List ℕ → Option Maps → Type 0
Enters s at h end m w w' (Some m') = Entered s at h end m w w' m'
Enters s at h end m w w' None = (x : Read Sum) (owed owing n t : ℕ) → entries_of h + owed ≡ suc owing
    → ToRead x s at owed (levels m w) n t → x ≡ broken
