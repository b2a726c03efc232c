-- Usages in records one behind the other, in preorder, as they are loaded: a subtree is a run of records. Links are not looked at.
-- Assumes nothing.
use Rattle.std.specs.Prelude.{ℕ, suc, ◌+◌, ◌≡◌, List}
use Rattle.definitions.specs.Usage.{Size, Usage, unused, leaf, map, array, Entries, none, entry, size, nodes}
use Rattle.definitions.specs.Command.{head_of}
use Rattle.records.specs.Records.{command_in, count_in, size_in, argument_in, offset_in}

-- what record q of s says, but for its links
pub record Holds (s : List ℕ) (q c n : ℕ) (z : Size) (t o : ℕ) : Type 0 where
  pub command : command_in s q ≡ c
  pub nodes : count_in s q ≡ n
  pub size : size_in s q ≡ z
  pub argument : argument_in s q ≡ t
  pub offset : offset_in s q ≡ o

-- record q is the root of u, with the argument t and the offset o
abbrev pub Root : Usage → ℕ → List ℕ → ℕ → ℕ → Type 0
Root u t s q o = Holds s q (head_of u).command (nodes u) (size u) t o

-- u stands from record q on, its root's offset being o. An Unused's and a map's argument, and an element's offset, are of no matter.
unfoldable mutual
  pub At : Usage → List ℕ → ℕ → ℕ → Type 0
  At (unused z) s q o = (t : ℕ) × Root (unused z) t s q o
  At (leaf z k t) s q o = Root (leaf z k t) t s q o
  At (map z es) s q o = ((t : ℕ) × Root (map z es) t s q o) × EntriesAt es s (suc q)
  At (array z n e) s q o = Root (array z n e) n s q o × ((o' : ℕ) × At e s (suc q) o')

  -- the entries stand from record q on, one behind the other
  pub EntriesAt : Entries → List ℕ → ℕ → Type 0
  EntriesAt none s q = Unit {0}
  EntriesAt (entry o u es) s q = At u s q o × EntriesAt es s (q + nodes u)
