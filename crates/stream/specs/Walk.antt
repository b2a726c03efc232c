-- The walk over the nodes of a stream, in their order: what is still to be read where it stands, and what that will have told.
-- Assumes nothing.
use Rattle.std.specs.Prelude.{ℕ, zero, suc, max, ◌+◌, ◌*◌, ◌≤◌, ◌<◌, ◌≡◌, Bool, true, false, List, [], ◌∷◌, Option, Some, None, eqb, length, drop}
use Rattle.definitions.specs.If.{when◌then◌else◌}
use Rattle.definitions.specs.Usage.{Usage, Entries, none, entry, nodes, nodes_in}
use Rattle.definitions.specs.Command.{Head}
use Rattle.definitions.specs.Stream.{Read, broken, read, ◌then◌, number, read_node, read_entries}
use Rattle.stream.specs.Found.{type_bound, type_bound_in}
use Rattle.stream.specs.declared.walk.Next.{Next}
use Rattle.stream.specs.declared.walk.Next.TheVariants as nexts

-- so many entries, with offsets in any order
unfoldable pub each : ℕ → List ℕ → Read Entries
each zero bs = read none bs
each (suc k) bs = number 4 bs then λ o bs₁. read_node bs₁ then λ u bs₂. each k bs₂ then λ es rest. read (entry o u es) rest

-- a map that is open: the entries left of it, and the least offset that the next may have
pub data Level : Type 0 where
  level : ℕ → ℕ → Level

-- the entries left of all of them
abbrev pub total : List Level → ℕ
total [] = 0
total (level m p ∷ ls) = m + total ls

-- nodes and a bound on their types
pub data Sum : Type 0 where
  sum : ℕ → ℕ → Sum

-- n nodes with types below t have been read; the entries left of open maps, the innermost first, are to come, and k more in any order
unfoldable pub owing : ℕ → ℕ → List Level → ℕ → List ℕ → Read Sum
owing n t [] k bs = each k bs then λ es rest. read (sum (n + nodes_in es) (max t (type_bound_in es))) rest
owing n t (level m p ∷ ls) k bs = read_entries read_node m p bs then λ es rest. owing (n + nodes_in es) (max t (type_bound_in es)) ls k rest

-- a node comes next, before all these
unfoldable pub pending : ℕ → ℕ → List Level → ℕ → List ℕ → Read Sum
pending n t ls k bs = read_node bs then λ u rest. owing (n + nodes u) (max t (type_bound u)) ls k rest

-- what is still to be read at `at` gives x; all entries that are to come are owed
pub record ToRead (x : Read Sum) (s : List ℕ) (at owed : ℕ) (ls : List Level) (n t : ℕ) : Type 0 where
  pub others : ℕ
  pub owes : owed ≡ total ls + others
  pub same : x ≡ pending n t ls others (drop at s)

-- the entries that a node opens
unfoldable pub entries_of : Head → ℕ
entries_of h = when eqb h.command 0x03 then h.argument else 0

-- one more than the type of a leaf
unfoldable pub own_bound : Head → ℕ
own_bound h = when eqb h.command 0x01 then suc h.argument else when eqb h.command 0x02 then suc h.argument else 0

-- an entry comes next, and so many are owed behind it; never more than s has bytes
pub record Owes (s : List ℕ) (h : Head) (end owed owing : ℕ) : Type 0 where
  pub other : h.command ≡ 0x04 → ⊥
  pub more : entries_of h + owed ≡ suc owing
  pub long : end + 4 ≤ length s
  pub small : owing ≤ length s

-- what comes behind an own part h that ends at `end`, where so many entries are owed; or that the bytes are too few for these
abbrev pub Goes : List ℕ → Head → ℕ → ℕ → Option Next → Type 0
Goes s h end owed (Some nexts.Element) = h.command ≡ 0x04
Goes s h end owed (Some (nexts.Entry owing)) = Owes s h end owed owing
Goes s h end owed (Some nexts.End) = (h.command ≡ 0x04 → ⊥) × (entries_of h + owed ≡ 0)
Goes s h end owed None = (h.command ≡ 0x04 → ⊥) × (length s < end + 4 * (entries_of h + owed))

-- where the node at a place of s ends, if it is one
abbrev pub Skips : List ℕ → ℕ → Option ℕ → Type 0
Skips s at (Some end) = (end ≤ length s) × ((u : Usage) (rest : List ℕ) → read_node (drop at s) ≡ read u rest → rest ≡ drop end s)
Skips s at None = (u : Usage) (rest : List ℕ) → read_node (drop at s) ≡ read u rest → ⊥

-- r says whether the entries left of open maps, behind the node at a place of s, are in order: then they may as well come in any
abbrev pub InOrder : List ℕ → ℕ → List Level → Bool → Type 0
InOrder s at ls true = (n t k : ℕ) → pending n t ls k (drop at s) ≡ pending n t [] (total ls + k) (drop at s)
InOrder s at ls false = (n t k : ℕ) → pending n t ls k (drop at s) ≡ broken
