-- What loading asks and gives. Nodes are loaded in the order of the stream, each by itself, and then linked from the last to the
-- first; so what is left behind a node, in the stream as in the records, is a list of usages one behind the other.
-- Assumes nothing.
use Rattle.std.specs.Prelude.{ℕ, zero, suc, ◌+◌, ◌*◌, ◌<◌, ◌≤◌, ◌≡◌, List, length, drop}
use Rattle.definitions.specs.Usage.{Usage, unused, leaf, map, array, Entries, none, entry, size, nodes, nodes_in, count, ◌<+>◌}
use Rattle.definitions.specs.Command.{head_of}
use Rattle.definitions.specs.Stream.{read, read_node}
use Rattle.numbers.specs.Words.{Width}
use Rattle.records.specs.Records.{next_in, cell, with_next, full, alone}
use Rattle.records.specs.Usages.{At}
use Rattle.record_links.specs.Standing.{Stands}
use Rattle.stream_load.specs.Nodes.{OwnAt}

-- What is left

-- what is left behind u's own node, where `es` is left behind u; an element has no offset
abbrev pub behind : Usage → Entries → Entries
behind (unused z) es = es
behind (leaf z k t) es = es
behind (map z fs) es = fs <+> es
behind (array z n e) es = entry 0 e es

abbrev pub behind_first : Entries → Entries
behind_first none = none
behind_first (entry o u es) = behind u es

-- what is left of es behind its first k nodes
unfoldable pub onward : ℕ → Entries → Entries
onward zero es = es
onward (suc k) es = behind_first (onward k es)

-- Loaded

-- record q is the root of u as it is loaded: linked to nothing, with one node, and the argument that the stream has
abbrev pub Bare : Usage → List ℕ → ℕ → ℕ → Type 0
Bare u s q o = cell s q ≡ alone (head_of u).command (size u) (head_of u).argument o

abbrev pub FirstBare : Entries → List ℕ → ℕ → Type 0
FirstBare none s q = Unit {0}
FirstBare (entry o u es) s q = Bare u s q o

-- each node of u is loaded, from record q on
unfoldable pub Raw : Usage → List ℕ → ℕ → Type 0
Raw u s q = (k : ℕ) → k < nodes u → FirstBare (onward k (entry 0 u none)) s (q + k)

-- Linked

-- the first of entries that stand from record q on; 0 for none
abbrev pub first_of : Entries → ℕ → ℕ
first_of none q = 0
first_of (entry o u es) q = q

-- what the root of u, at record q, has for its first child and its argument: a map's finger is on none of its entries
abbrev pub child_of : Usage → ℕ → ℕ
child_of (unused z) q = 0
child_of (leaf z k t) q = 0
child_of (map z es) q = first_of es (suc q)
child_of (array z n e) q = suc q

abbrev pub argument_of : Usage → ℕ
argument_of (unused z) = 0
argument_of (leaf z k t) = t
argument_of (map z es) = 0
argument_of (array z n e) = n

-- record q is the root of u, whatever comes next to it
abbrev pub RootLinked : Usage → List ℕ → ℕ → ℕ → Type 0
RootLinked u s q o = with_next 0 (cell s q) ≡ full (head_of u).command 0 (child_of u q) (nodes u) (size u) (argument_of u) o

-- u stands from record q on, linked; entries stand one behind the other, each linked to the next
unfoldable mutual
  pub Linked : Usage → List ℕ → ℕ → ℕ → Type 0
  Linked (unused z) s q o = RootLinked (unused z) s q o
  Linked (leaf z k t) s q o = RootLinked (leaf z k t) s q o
  Linked (map z es) s q o = RootLinked (map z es) s q o × EntriesLinked es s (suc q)
  Linked (array z n e) s q o = RootLinked (array z n e) s q o × Linked e s (suc q) 0

  pub EntriesLinked : Entries → List ℕ → ℕ → Type 0
  EntriesLinked none s q = Unit {0}
  EntriesLinked (entry o u es) s q = Linked u s q o × (next_in s q ≡ first_of es (q + nodes u)) × EntriesLinked es s (q + nodes u)

-- one behind the other, each linked for itself, and to none behind it
unfoldable pub Apart : Entries → List ℕ → ℕ → Type 0
Apart none s q = Unit {0}
Apart (entry o u es) s q = Linked u s q o × (next_in s q ≡ 0) × Apart es s (q + nodes u)

-- Contracts

-- the records below q are as they were; those outside of n from q on
abbrev pub KeptBelow : ℕ → List ℕ → List ℕ → Type 0
KeptBelow q s s' = (i : ℕ) → i < q → cell s' i ≡ cell s i

abbrev pub KeptOutside : ℕ → ℕ → List ℕ → List ℕ → Type 0
KeptOutside q n s s' = (i : ℕ) → (q ≤ i → i < q + n → ⊥) → cell s' i ≡ cell s i

-- k entries stand from record q on, inside s
pub record EntriesOf (s : List ℕ) (q k : ℕ) : Type 0 where
  pub entries : Entries
  pub stand : Apart entries s q
  pub many : count entries ≡ k
  pub some : 1 ≤ k
  pub inside : (q + nodes_in entries) * 32 ≤ length s
  pub few : q + nodes_in entries ≤ 65536

-- they are linked, and r is the record behind them
pub record EntriesTied (s : List ℕ) (q k : ℕ) (s' : List ℕ) (r : ℕ) : Type 0 where
  pub linked : (es : Entries) → Apart es s q → count es ≡ k → EntriesLinked es s' q
  pub behind : (es : Entries) → Apart es s q → count es ≡ k → r ≡ q + nodes_in es
  pub kept : (es : Entries) → Apart es s q → count es ≡ k → KeptOutside q (nodes_in es) s s'
  pub some : q < r
  pub few : r ≤ 65536

-- what lies below the root of u stands from record q on, each linked for itself
abbrev pub Below : Usage → List ℕ → ℕ → Type 0
Below (unused z) s q = Unit {0}
Below (leaf z k t) s q = Unit {0}
Below (map z es) s q = Apart es s q
Below (array z n e) s q = Linked e s q 0

-- u's root is loaded, and what lies below it is linked
pub record Ripe (u : Usage) (s : List ℕ) (q o : ℕ) : Type 0 where
  pub root : Bare u s q o
  pub below : Below u s (suc q)

pub record RipeAt (s : List ℕ) (q : ℕ) : Type 0 where
  pub usage : Usage
  pub offset : ℕ
  pub ripe : Ripe usage s q offset
  pub here : q * 32 + 32 ≤ length s
  pub inside : (q + nodes usage) * 32 ≤ length s
  pub few : q + nodes usage ≤ 65536

-- it is linked, and to none behind it
pub record Tied (s : List ℕ) (q : ℕ) (s' : List ℕ) : Type 0 where
  pub linked : (u : Usage) (o : ℕ) → Ripe u s q o → Linked u s' q o
  pub next : (u : Usage) (o : ℕ) → Ripe u s q o → next_in s' q ≡ 0
  pub kept : (u : Usage) (o : ℕ) → Ripe u s q o → KeptOutside q (nodes u) s s'

-- n nodes are loaded from record q on
pub record RawAt (s : List ℕ) (q n : ℕ) : Type 0 where
  pub usage : Usage
  pub raw : Raw usage s q
  pub many : nodes usage ≡ n
  pub inside : (q + n) * 32 ≤ length s
  pub few : q + n ≤ 65536

-- they are linked
pub record AllTied (s : List ℕ) (q n : ℕ) (s' : List ℕ) : Type 0 where
  pub linked : (u : Usage) → Raw u s q → nodes u ≡ n → Linked u s' q 0
  pub kept : KeptBelow q s s'

-- a node's own bytes stand at `at`, and record q is there
pub record OwnReady (s : List ℕ) (at front : ℕ) (work : List ℕ) (q : ℕ) : Type 0 where
  pub offset : ℕ
  pub usage : Usage
  pub rest : List ℕ
  pub stands : OwnAt front offset usage s at rest
  pub width : Width front
  pub inside : q * 32 + 32 ≤ length work

-- it has come to record q, and r is the place behind it
pub record OwnLoaded (s : List ℕ) (at front : ℕ) (work : List ℕ) (q : ℕ) (work' : List ℕ) (r : ℕ) : Type 0 where
  pub root : (o : ℕ) (u : Usage) (rest : List ℕ) → OwnAt front o u s at rest → Bare u work' q o
  pub behind : (o : ℕ) (u : Usage) (rest : List ℕ) → OwnAt front o u s at rest → drop r s ≡ rest
  pub within : r ≤ length s
  pub others : (i : ℕ) → (i ≡ q → ⊥) → cell work' i ≡ cell work i

-- the bytes at `at` read as a usage of n nodes, for which there are records, and each record's number fits a link
pub record Loadable (s : List ℕ) (at n : ℕ) (work : List ℕ) (q : ℕ) : Type 0 where
  pub usage : Usage
  pub rest : List ℕ
  pub reads : read_node (drop at s) ≡ read usage rest
  pub many : nodes usage ≡ n
  pub some : 1 ≤ q
  pub inside : (q + n) * 32 ≤ length work
  pub few : q + n ≤ 65536

-- the nodes of the usage that the bytes at `at` read as have come to the records from q on, and r is the place behind it
pub record NodesLoaded (s : List ℕ) (at : ℕ) (work : List ℕ) (q : ℕ) (work' : List ℕ) (r : ℕ) : Type 0 where
  pub raw : (u : Usage) (rest : List ℕ) → read_node (drop at s) ≡ read u rest → Raw u work' q
  pub behind : (u : Usage) (rest : List ℕ) → read_node (drop at s) ≡ read u rest → drop r s ≡ rest
  pub within : r ≤ length s
  pub kept : KeptBelow q work work'

-- a record's rank is its number, as long as nothing is linked otherwise
unfoldable pub by_number : ℕ → ℕ
by_number i = i

-- the usage that the bytes at `at` read as stands at record q, linked and in preorder, and r is the place behind it
pub record Loaded (s : List ℕ) (at : ℕ) (work : List ℕ) (q : ℕ) (work' : List ℕ) (r : ℕ) : Type 0 where
  pub stands : (u : Usage) (rest : List ℕ) → read_node (drop at s) ≡ read u rest → Stands u work' q by_number q (q + nodes u)
  pub run : (u : Usage) (rest : List ℕ) → read_node (drop at s) ≡ read u rest → At u work' q 0
  pub behind : (u : Usage) (rest : List ℕ) → read_node (drop at s) ≡ read u rest → drop r s ≡ rest
  pub within : r ≤ length s
  pub kept : KeptBelow q work work'
