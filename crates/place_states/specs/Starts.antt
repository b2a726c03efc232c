-- What a rule that begins a placing of b at d in a may assume, and what it leaves.
-- Assumes nothing.
use Rattle.std.specs.Prelude.{◌≡◌, ℕ, ◌+◌, List, [], length, ◌≢◌, Result as Returned, Ok, Err}
use Rattle.definitions.specs.Usage.{Usage, nodes}
use Rattle.definitions.specs.Table.{Setting}
use Rattle.definitions.specs.Place.{Result, refused, after, place_by_kind, place}
use Rattle.layout.specs.declared.setting.Setting.{Setting as CodeSetting}
use Rattle.layout.specs.Located.{Known}
use Rattle.report.specs.Emitted.{SameBuffer}
use Rattle.report.specs.declared.Report.{Report}
use Rattle.place_states.specs.Refusals.{number_of}
use Rattle.place_states.specs.Calls.{Two, Ground, ground}
use Rattle.place_states.specs.States.{Next, Short}
use Rattle.place_states.specs.declared.SizeRefusal.{SizeRefusal}
use Rattle.place_states.specs.declared.State.{State}

-- b, whose command is c, is not Unused, and no map at 0: rules 1 and 2 do not take it
pub record Plain (c d : ℕ) : Type 0 where
  pub used : c ≡ 0 → ⊥
  pub no_map : c ≡ 3 → d ≢ 0

-- a refusal is the goal's, with the report in its buffer, and a state stands for what is left of the goal
abbrev pub Opens : Setting → Result Usage → Ground → ℕ → List ℕ → Report → ℕ → Returned State SizeRefusal → Type 0
Opens setting goal g n s rep a (Err e) = (goal ≡ refused (number_of e)) × SameBuffer g.report rep
Opens setting goal g n s rep a (Ok st) = Next setting goal g n s rep a st

-- `place_by_kind`, with this placing's own pairing
pub record Begins (code : CodeSetting) (s : List ℕ) (a d b : ℕ) (rep : Report) (s' : List ℕ) (rep' : Report) (r : Returned State SizeRefusal) : Type 0 where
  pub next : (setting : Setting) → Known code setting → (t u : Usage) (rank : ℕ → ℕ) (lo mid hi : ℕ) → Two (length setting.table) s a b rank lo mid hi t u
      → Short rep.at (after [] 1 (place_by_kind setting (place setting) t d u))
      → Opens setting (after [] 1 (place_by_kind setting (place setting) t d u)) (ground s rank lo hi rep) (nodes t + nodes u) s' rep' a r

-- the same, whatever the setting
pub record Starts (s : List ℕ) (a d b : ℕ) (rep : Report) (s' : List ℕ) (rep' : Report) (r : Returned State SizeRefusal) : Type 0 where
  pub next : (setting : Setting) (t u : Usage) (rank : ℕ → ℕ) (lo mid hi : ℕ) → Two (length setting.table) s a b rank lo mid hi t u
      → Short rep.at (after [] 1 (place_by_kind setting (place setting) t d u))
      → Opens setting (after [] 1 (place_by_kind setting (place setting) t d u)) (ground s rank lo hi rep) (nodes t + nodes u) s' rep' a r

-- the whole placing, its sizes tested first
pub record Began (code : CodeSetting) (s : List ℕ) (a d b : ℕ) (rep : Report) (s' : List ℕ) (rep' : Report) (r : Returned State SizeRefusal) : Type 0 where
  pub next : (setting : Setting) → Known code setting → (t u : Usage) (rank : ℕ → ℕ) (lo mid hi : ℕ) → Two (length setting.table) s a b rank lo mid hi t u
      → Opens setting (place setting t d u) (ground s rank lo hi rep) (nodes t + nodes u) s' rep' a r
