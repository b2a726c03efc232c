-- What the steps of rule 6 assume and leave.
-- Assumes nothing.
use Rattle.std.specs.Prelude.{ℕ, suc, ◌+◌, ◌-◌, ◌*◌, ◌<◌, ◌≤◌, ◌≡◌, List, ◌∷◌, eqb, length}
use Rattle.definitions.specs.If.{when◌then◌else◌}
use Rattle.definitions.specs.Usage.{Size, Usage, map, Entries, none, entry, size}
use Rattle.definitions.specs.Stream.{bytes}
use Rattle.definitions.specs.Table.{Setting}
use Rattle.definitions.specs.Place.{straddle_conflict, Joining, straddled, joined_at, join_entry, place}
use Rattle.records.specs.Records.{command_in, next_in, size_in}
use Rattle.record_links.specs.Standing.{Root, Stands, Row}
use Rattle.record_links.specs.Rows.{Down, Up, link, onto}
use Rattle.record_links.specs.Frames.{Kept}
use Rattle.report.specs.Emitted.{Emitted}
use Rattle.report.specs.declared.Report.{Report}
use Rattle.place_states.specs.Continuation.{act}
use Rattle.place_states.specs.Finished.{finished_state}
use Rattle.place_states.specs.declared.State.{State}
use Rattle.place_states.specs.declared.Pairing.{Pairing}

-- where a state's records are
pub record Within (s : List ℕ) (a : ℕ) (st : State) : Type 0 where
  pub a_in : a * 32 + 32 ≤ length s
  pub x_in : st.x * 32 + 32 ≤ length s
  pub low_in : st.low * 32 + 32 ≤ length s
  pub rest_in : st.rest * 32 + 32 ≤ length s
  pub q_in : st.q * 32 + 32 ≤ length s
  pub linkable : length s ≤ 2097152

-- without the first of them, if that stands at o
unfoldable pub without : ℕ → Entries → Entries
without o none = none
without o (entry o' u es) = when eqb o' o then es else entry o' u es

-- whatever entries are linked from q on, those but one at o are linked from p on
pub record Passed (s : List ℕ) (q o p : ℕ) : Type 0 where
  pub small : p < 65536
  pub row : (es : Entries) (r : ℕ → ℕ) (lo hi : ℕ) → Row es s q 0 r lo hi → Row (without o es) s p 0 r lo hi

-- q follows the entry l of the map at record a, or is its first
pub record Hung (es : Entries) (s : List ℕ) (a l q : ℕ) (r : ℕ → ℕ) (m : ℕ) (s' : List ℕ) : Type 0 where
  pub up : Up es s' a l r (suc (r a)) m
  pub follows : link s' a l ≡ q
  pub command : command_in s' a ≡ command_in s a
  pub size : size_in s' a ≡ size_in s a
  pub kept : Kept s r s' r (r a) m

pub record SuccessorSet (s : List ℕ) (a l q : ℕ) (s' : List ℕ) : Type 0 where
  pub hung : (es : Entries) (r : ℕ → ℕ) (m : ℕ) → Up es s a l r (suc (r a)) m → Hung es s a l q r m s'

-- record a is the usage u, and outside of the ranks from lo to hi nothing has changed
pub record Made (u : Usage) (s : List ℕ) (a : ℕ) (r : ℕ → ℕ) (lo hi : ℕ) (s' : List ℕ) : Type 0 where
  pub stands : Stands u s' a r lo hi
  pub kept : Kept s r s' r lo hi

-- the map at record a has its entries up to l, and those linked from q on
pub record Concatenated (s : List ℕ) (a l q : ℕ) (s' : List ℕ) : Type 0 where
  pub made : (z : Size) (es fs : Entries) (r : ℕ → ℕ) (lo m hi : ℕ) → Root s a r lo hi 3 z → Up es s a l r (suc (r a)) m → Row fs s q 0 r m hi
      → Made (map z (onto es fs)) s a r lo hi s'

-- the same, where l gives way to b if both stand at o
pub record Inserted (s : List ℕ) (a l b o : ℕ) (s' : List ℕ) : Type 0 where
  pub made : (z : Size) (es fs : Entries) (u : Usage) (r : ℕ → ℕ) (lo m hi : ℕ) → Root s a r lo hi 3 z → Up es s a l r (suc (r a)) m → Row (entry o u fs) s b 0 r m hi
      → Made (map z (onto (without o es) (entry o u fs))) s a r lo hi s'

-- How the entry u at o and b at d are joined

unfoldable pub apart : ℕ → ℕ → Setting → Usage → Usage → List ℕ → ℕ → Joining
apart o d st u b w p = straddled none (straddle_conflict o d) p

unfoldable pub into_entry : ℕ → ℕ → Setting → Usage → Usage → List ℕ → ℕ → Joining
into_entry o d st u b w p = joined_at o o w p (place st u (d - o) b)

unfoldable pub into_b : Pairing → ℕ → ℕ → Setting → Usage → Usage → List ℕ → ℕ → Joining
into_b how o d st u b w p = joined_at d o w p (act st how (o - d) b u)

-- whatever they are, of the sizes that stand at l and x
pub record Joint (s : List ℕ) (l x o d : ℕ) (f : Setting → Usage → Usage → List ℕ → ℕ → Joining) : Type 0 where
  pub comes : (st : Setting) (u b : Usage) (w : List ℕ) (p : ℕ) → size u ≡ size_in s l → size b ≡ size_in s x → join_entry st (place st) o u d b w p ≡ f st u b w p

-- the pair's entry, at o, is no longer left, and its head is reported
pub record Paired (s : List ℕ) (rep : Report) (pair : State) (o : ℕ) (rep' : Report) (r : State) : Type 0 where
  pub state : r ≡ record pair { rest = next_in s pair.rest; mark = rep.at }
  pub report : Emitted rep (0x31 ∷ bytes 4 o) rep'

-- the entry, at o, and b are gone, and so is what was reported before; the entries that were not reached stay
pub record Straddled (s : List ℕ) (rep : Report) (a : ℕ) (st : State) (o : ℕ) (s' : List ℕ) (rep' : Report) (r : State) : Type 0 where
  pub state : r ≡ finished_state a st.pairings
  pub report : Emitted (record rep { at = st.base }) (straddle_conflict o st.offset) rep'
  pub made : (z : Size) (es fs gs : Entries) (r : ℕ → ℕ) (lo m n hi : ℕ) → Root s a r lo hi 3 z → Up es s a st.low r (suc (r a)) m
      → Down fs s (next_in s st.rest) r m n → Row gs s st.q 0 r n hi → Made (map z (onto es (onto fs gs))) s a r lo hi s'
