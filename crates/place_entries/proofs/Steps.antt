-- A step of rule 2: the first of the entries that are left has ranks just above the result's, so the two are the next pair, and the other
-- entries stay above them.
-- Assumes nothing.
use Rattle.std.proofs.Common.{◌≡◌, ℕ, ◌+◌, ◌*◌, ◌≤◌, List, ◌∷◌, length, ap, ◌∙◌, arith}
use Rattle.definitions.specs.Limits.{node_limit}
use Rattle.definitions.specs.Usage.{Usage, none, entry, nodes}
use Rattle.definitions.specs.Table.{Setting}
use Rattle.definitions.specs.Place.{done, of_rule}
use Rattle.definitions.specs.Stream.{bytes}
use Rattle.definitions.proofs.Nodes.{few_entries}
use Rattle.records.specs.Records.{next_in, offset_in}
use Rattle.record_links.specs.Standing.{Stands}
use Rattle.record_links.specs.Rows.{chain}
use Rattle.record_links.proofs.Chains.{row_falls}
use Rattle.record_links.proofs.Stands.{stands_root, stands_wide}
use Rattle.report.specs.Emitted.{Emitted}
use Rattle.report.proofs.Emitting.{emitted_after}
use Rattle.report.specs.declared.Report.{Report}
use Rattle.place_states.specs.Calls.{Ground}
use Rattle.place_states.specs.Continuation.{Continuation, entries, finish, outer}
use Rattle.place_states.specs.States.{Outside, SoFar, Pending, Next, Short, Waiting, Moves}
use Rattle.place_states.specs.Finished.{finished_state, Unheaded}
use Rattle.place_states.specs.declared.State.{State}
use Rattle.place_states.specs.declared.Rule.TheVariants.{Entries as ByEntries}
use Rattle.place_states.specs.declared.Pairing.TheVariants.{Place}
use Rattle.place_states.specs.declared.Todo.TheVariants.{Pair}
use Rattle.place_states.proofs.Ending.{next_finished, moves_finished, emitted_unheaded}
use Rattle.place_states.proofs.Outside.{IsEntries, is_entries, standing_entries, waiting_entries}
use Rattle.place_entries.proofs.Resuming.{finish_none, resume_entry}

-- the state for the entry at record st.rest, whose offset is o; the report stood at `mark` before its 31
abbrev pub entry_state : State → ℕ → ℕ → ℕ → State
entry_state st o after mark = record st { todo = Pair Place; d = o; m = st.rest; rest = after; mark = mark }

module _ (s : List ℕ) (a : ℕ) (st : State) (W : Waiting s a st) (rule : st.rule ≡ ByEntries) (some : st.rest ≡ 0 → ⊥) where
  pub rest_inside : st.rest * 32 + 32 ≤ length s
  unfolding Stands Outside
  rest_inside = go (waiting_entries W rule) W.outside
    where
      go : {y : Continuation} → IsEntries y → Outside W.k y s a st W.rank W.lo W.c W.e W.hi → st.rest * 32 + 32 ≤ length s
      go (is_entries none) h = absurd (some h.held.0)
      go (is_entries (entry o v es)) h = (stands_root v s st.rest W.rank W.e h.held.0 h.held.2).inside

  entries_fall : chain 65536 s (next_in s st.rest) + 1 ≤ chain 65536 s st.rest
  unfolding Outside
  entries_fall = go (waiting_entries W rule) W.outside W.few
    where
      go : {y : Continuation} → IsEntries y → Outside W.k y s a st W.rank W.lo W.c W.e W.hi → nodes W.u + outer y ≤ node_limit
          → chain 65536 s (next_in s st.rest) + 1 ≤ chain 65536 s st.rest
      go (is_entries es) h few = row_falls es s st.rest W.rank W.e W.hi (omega (arith, few_entries es)) some h.held

module _ (s : List ℕ) (rep : Report) (a : ℕ) (st : State) (rule : st.rule ≡ ByEntries) where
  module _ (setting : Setting) {u : Usage} {w : List ℕ} {p : ℕ} {g : Ground} (n : ℕ) where
    ends_none : {y : Continuation} → IsEntries y → SoFar (length setting.table) y u w p g s rep a st → (rep₁ : Report) → st.rest ≡ 0 → Unheaded st.base rep rep₁
        → Short g.report.at (finish setting y u w p) → Next setting (finish setting y u w p) g n s rep₁ a (finished_state st.x st.pairings)
    unfolding Stands Outside
    ends_none (is_entries (entry o v es)) S rep₁ none_left U short =
        let held = S.outside.held in
        absurd (omega (arith, (stands_root v s st.rest S.rank S.e held.0 held.2).some))
    ends_none (is_entries none) S rep₁ none_left U short =
        rw (finish_none setting u w p) (next_finished setting g n s rep₁ a (done u (of_rule w) _) st.x st.pairings (record {
          rank = S.rank;
          kept = S.kept;
          stands = stands_wide u s st.x S.rank S.c S.e g.lo g.hi S.outside.low S.outside.held.1 S.stands;
          pairs = S.pairs;
          report = emitted_unheaded w S.report (rw (finish_none setting u w p) at short).0 (rw S.based at U);
        }))

    module _ (rep₁ : Report) (o after mark : ℕ) (em : mark ≡ rep.at) (some : st.rest ≡ 0 → ⊥) (eo : o ≡ offset_in s st.rest) (ea : after ≡ next_in s st.rest)
        (E : Emitted rep (0x31 ∷ bytes 4 o) rep₁) where
      goes_more : {y : Continuation} → IsEntries y → SoFar (length setting.table) y u w p g s rep a st → nodes u + outer y ≤ n
          → Pending Place setting (finish setting y u w p) g n s rep₁ a (entry_state st o after mark)
      unfolding Stands Outside
      goes_more (is_entries none) S within = absurd (some S.outside.held.0)
      goes_more (is_entries (entry o' v es)) S within =
          let h = S.outside in
          let same-offset : o ≡ o' = eo ∙ h.held.1 in
          record {
            y = entries es;
            o = o;
            w = w;
            p = p;
            t = u;
            u = v;
            comes = resume_entry setting o u v es w p ∙ ap (λ (x : ℕ). finish setting (entries (entry x v es)) u w p) same-offset;
            within = omega arith;
            rank = S.rank;
            kept = S.kept;
            c = S.c;
            m = S.e;
            e = h.held.0;
            two = record { left = S.stands; right = h.held.2; left_fits = S.fits; right_fits = h.fits.2; few = omega (arith, S.few) };
            few = omega (arith, S.few);
            pairs = S.pairs;
            brief = S.brief;
            room = omega (arith, S.room);
            based = S.based;
            mark = em ∙ S.report.place;
            report = emitted_after S.report E;
            outside = record { rule = rule; asks = λ e. absurd (cc); low = h.low; held = rw ea h.held.3; lowest = _; fits = h.fits.3 };
          }

  -- no entry is left
  pub next_none : (rep₁ : Report) (st' : State) → st.rest ≡ 0 → Unheaded st.base rep rep₁ → st' ≡ finished_state st.x st.pairings → Moves s rep a st s rep₁ st'
  next_none rep₁ st' none_left U e = moves_finished s rep a st s rep₁ st' st.x st.pairings e (λ setting y u w p g n within S short.
      ends_none setting n (standing_entries S rule) S rep₁ none_left U short)

  -- the first of those left goes into the result
  pub next_more : (rep₁ : Report) (o after mark : ℕ) → mark ≡ rep.at → Waiting s a st → (st.rest ≡ 0 → ⊥) → o ≡ offset_in s st.rest → after ≡ next_in s st.rest
      → Emitted rep (0x31 ∷ bytes 4 o) rep₁ → Moves s rep a st s rep₁ (entry_state st o after mark)
  next_more rep₁ o after mark em W some eo ea E = record {
    fall = rw ea (omega (arith, entries_fall s a st W rule some));
    next = λ setting y u w p g n within S short. record { ahead = goes_more setting n rep₁ o after mark em some eo ea E (standing_entries S rule) S within };
  }
