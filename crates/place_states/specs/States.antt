-- How a state of a placing's loop stands for what the placing has yet to do.
-- Assumes nothing.
use Rattle.std.specs.Prelude.{◌≡◌, ℕ, suc, ◌+◌, ◌-◌, ◌*◌, ◌%◌, ◌^◌, ◌<◌, ◌≤◌, List, ◌++◌, length, Ok}
use Rattle.definitions.specs.Limits.{max32, node_limit}
use Rattle.definitions.specs.Usage.{Size, In32, Usage, Entries, none, nodes, ◌<+>◌}
use Rattle.definitions.specs.Table.{Setting}
use Rattle.definitions.specs.Place.{Result, refused, done}
use Rattle.definitions.specs.Sound.{Storable, Ascends}
use Rattle.definitions.specs.Inner.Pairs.{pairs as apart}
use Rattle.records.specs.Records.{argument_in}
use Rattle.record_links.specs.Standing.{Root, Stands, Row}
use Rattle.record_links.specs.Rows.{Down, Up, onto, chain}
use Rattle.record_links.specs.Frames.{Kept}
use Rattle.report.specs.Emitted.{Emitted}
use Rattle.report.specs.declared.Report.{Report}
use Rattle.place_states.specs.Calls.{Two, Linkable, Ground, Done}
use Rattle.place_states.specs.Continuation.{Continuation, entries, element, joins, finish, heading, entry_head, resume, act, spare, outer, UpTo, FromOn}
use Rattle.place_states.specs.Finished.{merged_of}
use Rattle.place_states.specs.declared.State.{State}
use Rattle.place_states.specs.declared.Rule.TheVariants.{Entries as ByEntries, Element as ByElement, Join as ByJoin}
use Rattle.place_states.specs.declared.Pairing.{Pairing}
use Rattle.place_states.specs.declared.Pairing.TheVariants.{Merge}
use Rattle.place_states.specs.declared.Todo.{Todo}
use Rattle.place_states.specs.declared.Todo.TheVariants.{Finished, Go, Pair}

-- Where what is outside of the pair stands. The pair, or its result, has the ranks from c to e; all has those from lo to hi. The
-- placing's receiver, where it is an array or a map, is record a.

pub record Placing (k : ℕ) (es : Entries) (s : List ℕ) (st : State) (r : ℕ → ℕ) (lo c e hi : ℕ) : Type 0 where
  pub rule : st.rule ≡ ByEntries
  pub asks : st.todo ≡ Pair Merge → ⊥
  pub low : lo ≤ c
  pub held : Row es s st.rest 0 r e hi
  pub lowest : ℕ
  pub fits : Ascends k lowest es

pub record Around (z : Size) (n : ℕ) (s : List ℕ) (a : ℕ) (st : State) (r : ℕ → ℕ) (lo c e hi : ℕ) : Type 0 where
  pub rule : st.rule ≡ ByElement
  pub root : Root s a r lo c 4 z
  pub stride : argument_in s a ≡ n
  pub high : e ≤ hi
  pub rest : st.rest ≡ 0
  pub size_fits : In32 z
  pub stride_some : 1 ≤ n
  pub stride_fits : n ≤ max32

pub record Joins (k : ℕ) (z : Size) (low mid high : Entries) (d : ℕ) (s : List ℕ) (a : ℕ) (st : State) (r : ℕ → ℕ) (lo c e hi : ℕ) : Type 0 where
  pub rule : st.rule ≡ ByJoin
  pub root : Root s a r lo c 3 z
  pub size_fits : In32 z
  pub offset : st.offset ≡ d
  pub low_down : Entries
  pub low_is : low ≡ onto low_down none
  pub mid_down : Entries
  pub mid_is : mid ≡ onto mid_down none
  pub m : ℕ
  pub low_held : Up low_down s a st.low r (suc (r a)) m
  pub mid_held : Down mid_down s st.rest r m c
  pub high_held : Row high s st.q 0 r e hi
  pub ascends : Ascends k 0 (low <+> mid <+> high)
  pub low_by : UpTo d low
  pub high_from : FromOn d high
  pub offset_fits : d ≤ max32

unfoldable pub Outside : ℕ → Continuation → List ℕ → ℕ → State → (ℕ → ℕ) → ℕ → ℕ → ℕ → ℕ → Type 0
Outside k (entries es) s a st r lo c e hi = Placing k es s st r lo c e hi
Outside k (element z n) s a st r lo c e hi = Around z n s a st r lo c e hi
Outside k (joins z low mid high d) s a st r lo c e hi = Joins k z low mid high d s a st r lo c e hi

-- What the pairs so far have come to is record x: the placing gives `finish setting y u w p`.
pub record SoFar (k : ℕ) (y : Continuation) (u : Usage) (w : List ℕ) (p : ℕ) (g : Ground) (s : List ℕ) (rep : Report) (a : ℕ) (st : State) : Type 0 where
  pub rank : ℕ → ℕ
  pub kept : Kept g.bytes g.rank s rank g.lo g.hi
  pub c : ℕ
  pub e : ℕ
  pub stands : Stands u s st.x rank c e
  pub fits : Storable k u
  pub few : nodes u + outer y ≤ node_limit
  pub pairs : st.pairings ≡ suc p % 2 ^ 32
  pub brief : length w ≤ 14 * p
  pub room : p + apart u + spare y (nodes u) ≤ 2 ^ 32
  pub based : st.base ≡ g.report.at
  pub report : Emitted g.report (heading y ++ w) rep
  pub outside : Outside k y s a st rank g.lo c e g.hi

-- With what stands the goal will be reached; n nodes are all that there are.
pub record Held (setting : Setting) (goal : Result Usage) (g : Ground) (n : ℕ) (s : List ℕ) (rep : Report) (a : ℕ) (st : State) : Type 0 where
  pub y : Continuation
  pub u : Usage
  pub w : List ℕ
  pub p : ℕ
  pub comes : finish setting y u w p ≡ goal
  pub within : nodes u + outer y ≤ n
  pub standing : SoFar (length setting.table) y u w p g s rep a st

-- A pair stands at x and m, and with what is done with it the goal will be reached.
pub record Pending (how : Pairing) (setting : Setting) (goal : Result Usage) (g : Ground) (n : ℕ) (s : List ℕ) (rep : Report) (a : ℕ) (st : State) : Type 0 where
  pub y : Continuation
  pub o : ℕ
  pub w : List ℕ
  pub p : ℕ
  pub t : Usage
  pub u : Usage
  pub comes : resume setting y o w p (act setting how st.d t u) ≡ goal
  pub within : nodes t + nodes u + outer y ≤ n
  pub rank : ℕ → ℕ
  pub kept : Kept g.bytes g.rank s rank g.lo g.hi
  pub c : ℕ
  pub m : ℕ
  pub e : ℕ
  pub two : Two (length setting.table) s st.x st.m rank c m e t u
  pub few : nodes t + nodes u + outer y ≤ node_limit
  pub pairs : st.pairings ≡ suc p % 2 ^ 32
  pub brief : length w ≤ 14 * p
  pub room : p + apart t + apart u + nodes t * nodes u + spare y (nodes t + nodes u) ≤ 2 ^ 32
  pub based : st.base ≡ g.report.at
  pub mark : st.mark ≡ (g.report.at + length (heading y ++ w)) % 2 ^ 64
  pub report : Emitted g.report ((heading y ++ w) ++ entry_head y o) rep
  pub outside : Outside (length setting.table) y s a st rank g.lo c e g.hi

-- a goal's report, which began at `base`, never comes to where positions wrap, nor does any that a straddle takes back on the way
abbrev pub Short : ℕ → Result Usage → Type 0
Short base (refused k) = Unit {0}
Short base (done u w p) = (base + length w < 2 ^ 63) × (base + 14 * p < 2 ^ 63)

-- finished, and what is left is the goal's; or something stands, from which it goes on; or a pair is pending
abbrev pub Ahead : Todo → Setting → Result Usage → Ground → ℕ → List ℕ → Report → ℕ → State → Type 0
Ahead Finished setting goal g n s rep a st = Done goal g s (Ok (merged_of st)) rep
Ahead Go setting goal g n s rep a st = Held setting goal g n s rep a st
Ahead (Pair how) setting goal g n s rep a st = Pending how setting goal g n s rep a st

pub record Next (setting : Setting) (goal : Result Usage) (g : Ground) (n : ℕ) (s : List ℕ) (rep : Report) (a : ℕ) (st : State) : Type 0 where
  pub ahead : Ahead st.todo setting goal g n s rep a st

-- the turns that a state takes until the next step of its rule is done
abbrev pub turns : Todo → ℕ
turns Finished = 0
turns Go = 1
turns (Pair how) = 2

-- What the next step of a rule may assume: something stands at x, and what is outside of it.
pub record Waiting (s : List ℕ) (a : ℕ) (st : State) : Type 0 where
  pub k : ℕ
  pub y : Continuation
  pub u : Usage
  pub rank : ℕ → ℕ
  pub lo : ℕ
  pub c : ℕ
  pub e : ℕ
  pub hi : ℕ
  pub stands : Stands u s st.x rank c e
  pub fits : Storable k u
  pub few : nodes u + outer y ≤ node_limit
  pub outside : Outside k y s a st rank lo c e hi
  pub linkable : Linkable s

-- What it leaves: fewer entries to come, and the goal still ahead.
pub record Moves (s : List ℕ) (rep : Report) (a : ℕ) (st : State) (s' : List ℕ) (rep' : Report) (st' : State) : Type 0 where
  pub fall : chain 65536 s' st'.rest + 1 ≤ chain 65536 s st.rest + (1 - turns st'.todo)
  pub next : (setting : Setting) (y : Continuation) (u : Usage) (w : List ℕ) (p : ℕ) (g : Ground) (n : ℕ) → nodes u + outer y ≤ n
      → SoFar (length setting.table) y u w p g s rep a st → Short g.report.at (finish setting y u w p)
      → Next setting (finish setting y u w p) g n s' rep' a st'
