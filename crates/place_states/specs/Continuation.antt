-- What a placing has yet to do beside the pair that is being placed or merged, and what it then gives.
-- Assumes nothing.
use Rattle.std.specs.Prelude.{ℕ, suc, ◌+◌, ◌*◌, ◌≤◌, List, [], ◌∷◌, ◌++◌}
use Rattle.definitions.specs.Usage.{Size, Usage, array, Entries, none, entry, nodes_in}
use Rattle.definitions.specs.Stream.{bytes}
use Rattle.definitions.specs.Table.{Setting}
use Rattle.definitions.specs.Place.{Result, refused, done, after, headed, of_entry, Joining, joined, rebuilt, place_entries, join_next, place, merge_mem}
use Rattle.definitions.specs.Inner.Pairs.{pairs_in}
use Rattle.place_states.specs.declared.Pairing.{Pairing}
use Rattle.place_states.specs.declared.Pairing.TheVariants.{Place, Merge}

-- What stays outside of the pair: rule 2's entries that are still to be placed; rule 5's array around the element, its size and
-- stride; rule 6's map: its size, the entries below, those still to be joined, those above, and the offset of the pair's result.
pub data Continuation : Type 0 where
  entries : Entries → Continuation
  element : Size → ℕ → Continuation
  joins : Size → Entries → Entries → Entries → ℕ → Continuation

-- the entries that are still to be joined, the highest first, after what joining has come to
abbrev pub join_down : Setting → Entries → Joining → Joining
join_down st none j = j
join_down st (entry o u es) j = join_next st (place st) o u (join_down st es j)

-- what the placing gives, where u is the pair's result, w was reported and p pairings were counted, this placing's own not among them
unfoldable pub finish : Setting → Continuation → Usage → List ℕ → ℕ → Result Usage
finish st (entries es) u w p = after [] 1 (headed (after w p (place_entries st (place st) u es)))
finish st (element z n) u w p = after [] 1 (done (array z n u) w p)
finish st (joins z low mid high d) u w p = after [] 1 (rebuilt z low high (join_down st mid (joined d u w p)))

-- Rules 2 and 6 put 30 before all reports, and 31 with the entry's offset o before each.

abbrev pub heading : Continuation → List ℕ
heading (entries es) = 0x30 ∷ []
heading (element z n) = []
heading (joins z low mid high d) = 0x30 ∷ []

abbrev pub entry_head : Continuation → ℕ → List ℕ
entry_head (entries es) o = 0x31 ∷ bytes 4 o
entry_head (element z n) o = []
entry_head (joins z low mid high d) o = 0x31 ∷ bytes 4 o

abbrev pub marked : Continuation → ℕ → List ℕ → List ℕ
marked (entries es) o w = of_entry o w
marked (element z n) o w = w
marked (joins z low mid high d) o w = of_entry o w

-- what the placing gives, where r is what the pair gives
unfoldable pub resume : Setting → Continuation → ℕ → List ℕ → ℕ → Result Usage → Result Usage
resume st y o w p (refused k) = refused k
resume st y o w p (done u w' p') = finish st y u (w ++ marked y o w') (p + p')

-- what the pair gives: the second is placed in the first at d, or they are merged
unfoldable pub act : Setting → Pairing → ℕ → Usage → Usage → Result Usage
act st Place d t u = place st t d u
act st Merge d t u = merge_mem st t u

-- the pairs of nodes that can still be met, where what stands so far has n nodes
abbrev pub spare : Continuation → ℕ → ℕ
spare (entries es) n = pairs_in es + n * nodes_in es
spare (element z n) m = 0
spare (joins z low mid high d) n = pairs_in mid + n * nodes_in mid

-- the nodes that are outside of the pair, rule 2's own map among them
abbrev pub outer : Continuation → ℕ
outer (entries es) = suc (nodes_in es)
outer (element z n) = 1
outer (joins z low mid high d) = suc (nodes_in low + nodes_in mid + nodes_in high)

-- every offset is at most d; at least d
abbrev pub UpTo : ℕ → Entries → Type 0
UpTo d none = Unit {0}
UpTo d (entry o u es) = (o ≤ d) × UpTo d es

abbrev pub FromOn : ℕ → Entries → Type 0
FromOn d none = Unit {0}
FromOn d (entry o u es) = (d ≤ o) × FromOn d es
