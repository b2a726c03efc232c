-- What a pair gave, once it has been placed or merged, and what settling it assumes.
-- Assumes nothing.
use Rattle.std.specs.Prelude.{◌≡◌, ℕ, suc, ◌+◌, ◌-◌, ◌*◌, ◌%◌, ◌^◌, ◌<◌, ◌≤◌, List, ◌++◌, length}
use Rattle.definitions.specs.Limits.{node_limit}
use Rattle.definitions.specs.Usage.{Usage, nodes}
use Rattle.definitions.specs.Table.{Setting}
use Rattle.definitions.specs.Place.{Result, done}
use Rattle.definitions.specs.Sound.{Storable}
use Rattle.definitions.specs.Inner.Pairs.{pairs as apart}
use Rattle.record_links.specs.Standing.{Stands}
use Rattle.record_links.specs.Frames.{Kept}
use Rattle.report.specs.Emitted.{Emitted}
use Rattle.report.specs.declared.Report.{Report}
use Rattle.place_states.specs.Calls.{Ground}
use Rattle.place_states.specs.Continuation.{Continuation, heading, entry_head, resume, spare, outer}
use Rattle.place_states.specs.States.{Outside}
use Rattle.place_states.specs.declared.State.{State}
use Rattle.place_states.specs.declared.Merged.{Merged}

-- The pair gave u, with the report w' and p' pairings.
pub record PairResult (k : ℕ) (y : Continuation) (o : ℕ) (w : List ℕ) (p : ℕ) (g : Ground) (n : ℕ) (u : Usage) (w' : List ℕ) (p' : ℕ) (s : List ℕ) (rep : Report) (a : ℕ) (st : State) (m : Merged) : Type 0 where
  pub rank : ℕ → ℕ
  pub kept : Kept g.bytes g.rank s rank g.lo g.hi
  pub c : ℕ
  pub e : ℕ
  pub stands : Stands u s m.node rank c e
  pub fits : Storable k u
  pub within : nodes u + outer y ≤ n
  pub few : nodes u + outer y ≤ node_limit
  pub pairs : m.pairings ≡ p' % 2 ^ 32
  pub short : length w' ≤ 14 * p' - 5
  pub room : p + p' + apart u + spare y (nodes u) ≤ 2 ^ 32
  pub report : Emitted g.report (((heading y ++ w) ++ entry_head y o) ++ w') rep
  pub outside : Outside k y s a st rank g.lo c e g.hi

-- The pending pair has been placed or merged, before which the report stood at `here`, and gave m: with it the goal will be reached.
pub record HasResult (setting : Setting) (goal : Result Usage) (g : Ground) (n : ℕ) (s : List ℕ) (rep : Report) (a : ℕ) (st : State) (here : ℕ) (m : Merged) : Type 0 where
  pub y : Continuation
  pub o : ℕ
  pub w : List ℕ
  pub p : ℕ
  pub u : Usage
  pub w' : List ℕ
  pub p' : ℕ
  pub comes : resume setting y o w p (done u w' p') ≡ goal
  pub gave : PairResult (length setting.table) y o w p g n u w' p' s rep a st m
  pub pairs : st.pairings ≡ suc p % 2 ^ 32
  pub brief : length w ≤ 14 * p
  pub near : g.report.at < 2 ^ 63
  pub based : st.base ≡ g.report.at
  pub mark : st.mark ≡ (g.report.at + length (heading y ++ w)) % 2 ^ 64
  pub was : here ≡ (g.report.at + length ((heading y ++ w) ++ entry_head y o)) % 2 ^ 64
