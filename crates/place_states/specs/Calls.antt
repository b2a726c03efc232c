-- What placing and merging on linked records may assume and what they leave.
-- Assumes nothing.
use Rattle.std.specs.Prelude.{◌≡◌, ℕ, ◌+◌, ◌*◌, ◌%◌, ◌^◌, ◌≤◌, List, length, Result as Returned, Ok, Err}
use Rattle.definitions.specs.Limits.{node_limit}
use Rattle.definitions.specs.Usage.{Usage, nodes}
use Rattle.definitions.specs.Table.{Setting}
use Rattle.definitions.specs.Place.{Result, refused, done, place, merge_mem}
use Rattle.definitions.specs.Sound.{Storable}
use Rattle.record_links.specs.Standing.{Stands}
use Rattle.record_links.specs.Frames.{Kept}
use Rattle.layout.specs.declared.setting.Setting.{Setting as CodeSetting}
use Rattle.layout.specs.Located.{Known}
use Rattle.report.specs.Emitted.{Emitted, SameBuffer}
use Rattle.report.specs.declared.Report.{Report}
use Rattle.place_states.specs.Refusals.{number_of}
use Rattle.place_states.specs.declared.Merged.{Merged}
use Rattle.place_states.specs.declared.SizeRefusal.{SizeRefusal}

-- t is record a and u is record b, apart from one another, with types below k
pub record Two (k : ℕ) (s : List ℕ) (a b : ℕ) (r : ℕ → ℕ) (lo mid hi : ℕ) (t u : Usage) : Type 0 where
  pub left : Stands t s a r lo mid
  pub right : Stands u s b r mid hi
  pub left_fits : Storable k t
  pub right_fits : Storable k u
  pub few : nodes t + nodes u ≤ node_limit

-- the bytes hold at most 65,536 records, so that two bytes hold the number of any
abbrev pub Linkable : List ℕ → Type 0
Linkable s = length s ≤ 2097152

-- some two usages stand there
pub record Beside (s : List ℕ) (a b : ℕ) : Type 0 where
  pub k : ℕ
  pub t : Usage
  pub u : Usage
  pub r : ℕ → ℕ
  pub lo : ℕ
  pub mid : ℕ
  pub hi : ℕ
  pub two : Two k s a b r lo mid hi t u
  pub left_in : a * 32 + 32 ≤ length s
  pub right_in : b * 32 + 32 ≤ length s
  pub left_some : 1 ≤ a
  pub right_some : 1 ≤ b
  pub linkable : Linkable s

-- what a call may assume: some setting is known, and some two usages stand there, with types of its table
pub record Ready (code : CodeSetting) (s : List ℕ) (a b : ℕ) : Type 0 where
  pub setting : Setting
  pub known : Known code setting
  pub t : Usage
  pub u : Usage
  pub r : ℕ → ℕ
  pub lo : ℕ
  pub mid : ℕ
  pub hi : ℕ
  pub two : Two (length setting.table) s a b r lo mid hi t u
  pub left_in : a * 32 + 32 ≤ length s
  pub right_in : b * 32 + 32 ≤ length s
  pub left_some : 1 ≤ a
  pub right_some : 1 ≤ b
  pub linkable : Linkable s

-- the report, at this position, and those on the way down through n nodes, stay far from where positions wrap
abbrev pub NoWrap : ℕ → ℕ → Type 0
NoWrap at n = at + n * 2 ^ 38 ≤ 2 ^ 62

-- where a placing began: the records with their ranks, those from lo to hi being the two usages', and the report
pub record Ground : Type 0 where
  pub bytes : List ℕ
  pub rank : ℕ → ℕ
  pub lo : ℕ
  pub hi : ℕ
  pub report : Report

-- the usage u is m's record, the report w is behind what was reported before, and there were q pairings
pub record Answered (u : Usage) (w : List ℕ) (q : ℕ) (g : Ground) (s : List ℕ) (m : Merged) (rep : Report) : Type 0 where
  pub rank : ℕ → ℕ
  pub kept : Kept g.bytes g.rank s rank g.lo g.hi
  pub stands : Stands u s m.node rank g.lo g.hi
  pub pairs : m.pairings ≡ q % 2 ^ 32
  pub report : Emitted g.report w rep

-- what is left, where the definition gives y; where that is a refusal, the report is in its buffer at least
abbrev pub Done : Result Usage → Ground → List ℕ → Returned Merged SizeRefusal → Report → Type 0
Done (refused k) g s (Err e) rep = (number_of e ≡ k) × SameBuffer g.report rep
Done (refused k) g s (Ok m) rep = ⊥
Done (done u w q) g s (Err e) rep = ⊥
Done (done u w q) g s (Ok m) rep = Answered u w q g s m rep

-- what placing at d, and merging, give; with the setting first, for the contracts
unfoldable pub placing : ℕ → Setting → Usage → Usage → Result Usage
placing d st t u = place st t d u

unfoldable pub merging : Setting → Usage → Usage → Result Usage
merging st t u = merge_mem st t u

abbrev pub ground : List ℕ → (ℕ → ℕ) → ℕ → ℕ → Report → Ground
ground s r lo hi rep = record { bytes = s; rank = r; lo = lo; hi = hi; report = rep }

-- the contract of `merge_mem_at` and `merge_mem`
pub record Placed (y : Setting → Usage → Usage → Result Usage) (code : CodeSetting) (s : List ℕ) (a b : ℕ) (s' : List ℕ) (r : Returned Merged SizeRefusal) (rep rep' : Report) : Type 0 where
  pub done : (st : Setting) → Known code st → (t u : Usage) (r₀ : ℕ → ℕ) (lo mid hi : ℕ) → Two (length st.table) s a b r₀ lo mid hi t u
      → Done (y st t u) (ground s r₀ lo hi rep) s' r rep'
