-- The next pair: the entry and then b, or b and then the entry, with their ranks exchanged. With what it gives the goal is reached,
-- since it is what joining the entry gives.
-- Assumes nothing.
use Prim.Native.Nat.{ℕ, ◌+◌, ◌-◌, ◌<◌, ◌≤◌}
use mathlib.Core.Path.{◌≡◌, refl, sym, ◌∙◌}
use mathlib.Core.List.{List}
use lib.ListN.{length}
use native.Mathlib.Omega.{arith}
use Rattle.definitions.specs.Usage.{Size, Usage, Entries, none, nodes}
use Rattle.definitions.specs.Table.{Setting}
use Rattle.definitions.specs.Place.{place}
use Rattle.records.specs.Records.{next_in, offset_in}
use Rattle.record_links.specs.Rows.{onto}
use Rattle.record_links.specs.Ranks.{rotated}
use Rattle.record_links.specs.Frames.{Kept}
use Rattle.record_links.proofs.Stands.{stands_le, row_le, down_le, up_le}
use Rattle.record_links.proofs.Frames.{kept_trans, kept_widen}
use Rattle.record_links.proofs.Ranks.{rot_kept, rot_left, rot_right}
use Rattle.report.proofs.Emitting.{emitted_after}
use Rattle.report.specs.declared.Report.{Report}
use Rattle.place_states.specs.Calls.{Ground}
use Rattle.place_states.specs.Continuation.{joins, finish, outer, act}
use Rattle.place_states.specs.States.{Joins, Outside, SoFar, Pending, Waiting, Moves}
use Rattle.place_states.specs.declared.State.{State}
use Rattle.place_states.specs.declared.Rule.TheVariants.{Join as ByJoin}
use Rattle.place_states.specs.declared.Pairing.{Pairing}
use Rattle.place_states.specs.declared.Pairing.TheVariants.{Place}
use Rattle.place_states.specs.declared.Todo.TheVariants.{Pair}
use Rattle.place_states.proofs.Framing.{outside_kept}
use Rattle.place_states.proofs.Room.{spare_last}
use Rattle.place_maps.specs.Joining.{into_entry, into_b, Joint, Paired}
use Rattle.place_maps.proofs.Entries.{under_upto, from_less}
use Rattle.place_maps.proofs.Downward.{resume_joins}
use Rattle.place_maps.proofs.Stepping.{by_joins, taken, finish_joint, outer_less, joins_next, falls}

module _ (s : List ℕ) (rep : Report) (a : ℕ) (st : State) (W : Waiting s a st) (e : st.rule ≡ ByJoin) (ne : st.rest ≡ 0 → ⊥) where
  -- the state with the next pair, which the entry at o is of
  abbrev paired : State → State
  paired pair = record pair { rest = next_in s pair.rest; mark = rep.at }

  abbrev entry_pair : State
  entry_pair = record st { todo = Pair Place; x = st.rest; d = st.offset - offset_in s st.rest; m = st.x; offset = offset_in s st.rest }

  pub entry_receives : {rep' : Report} {st' : State} → offset_in s st.rest < st.offset → Joint s st.rest st.x (offset_in s st.rest) st.offset (into_entry (offset_in s st.rest) st.offset)
      → Paired s rep entry_pair (offset_in s st.rest) rep' st' → Moves s rep a st s rep' st'
  unfolding Outside into_entry act
  entry_receives {rep'} lower Jt P = rw P.state (record {
    fall = omega (arith, falls s a st W e ne);
    next = by_joins _ _ _ _ _ _ _ e (λ setting z low mid high b w p g n le S J short.
        let o : ℕ = offset_in s st.rest in
        let d : ℕ = st.offset in
        let A = taken J ne in
        let init = onto A.init_down none in
        record {
          ahead = record {
            y = joins z low init high o;
            o = o;
            w = w;
            p = p;
            t = A.u;
            u = b;
            comes = resume_joins setting z low high init o o w p (place setting A.u (d - o) b) ∙ sym (finish_joint J setting b w p A S.stands Jt);
            within = omega (arith, outer_less J A o);
            rank = S.rank;
            kept = S.kept;
            c = A.n;
            m = S.c;
            e = S.e;
            two = record { left = A.stands; right = S.stands; left_fits = A.fits; right_fits = S.fits; few = omega (arith, S.few, outer_less J A o) };
            few = omega (arith, S.few, outer_less J A o);
            pairs = S.pairs;
            brief = S.brief;
            room = omega (arith, S.room, spare_last z low mid high init d o o (nodes b) A.u A.mid_is);
            based = S.based;
            mark = S.report.place;
            report = emitted_after S.report P.report;
            outside = joins_next J A o _ e refl refl refl refl (under_upto low (omega arith) A.low_under) (from_less high (omega arith) J.high_from) A.offset_fits;
          };
        });
  })

  abbrev b_pair : Pairing → State
  b_pair how = record st { todo = Pair how; d = offset_in s st.rest - st.offset; m = st.rest }

  module _ (how : Pairing) (Jt : Joint s st.rest st.x (offset_in s st.rest) st.offset (into_b how (offset_in s st.rest) st.offset)) {rep' : Report} {st' : State} (P : Paired s rep (b_pair how) (offset_in s st.rest) rep' st') where
    b_pending : (setting : Setting) (z : Size) (low mid high : Entries) (b : Usage) (w : List ℕ) (p : ℕ) (g : Ground) (n : ℕ) → nodes b + outer (joins z low mid high st.offset) ≤ n
        → (S : SoFar (length setting.table) (joins z low mid high st.offset) b w p g s rep a st) → Joins (length setting.table) z low mid high st.offset s a st S.rank g.lo S.c S.e g.hi
        → Pending how setting (finish setting (joins z low mid high st.offset) b w p) g n s rep' a (paired (b_pair how))
    unfolding Outside into_b
    b_pending setting z low mid high b w p g n le S J =
        let o : ℕ = offset_in s st.rest in
        let d : ℕ = st.offset in
        let r : ℕ → ℕ = S.rank in
        let A = taken J ne in
        let init = onto A.init_down none in
        let ce : S.c < S.e = stands_le b s st.x r S.c S.e S.stands in
        let nc : A.n < S.c = stands_le A.u s st.rest r A.n S.c A.stands in
        let mn = down_le A.init_down s (next_in s st.rest) r J.m A.n A.down in
        let am = up_le J.low_down s a st.low r _ J.m J.low_held in
        let eh = row_le high s st.q 0 r S.e g.hi J.high_held in
        let b₁ : A.n ≤ S.c = omega arith in
        let b₂ : S.c ≤ S.e = omega arith in
        let r' : ℕ → ℕ = rotated r A.n S.c S.e in
        let K : Kept s r s r' A.n S.e = rot_kept s r A.n S.c S.e b₁ b₂ in
        record {
          y = joins z low init high d;
          o = o;
          w = w;
          p = p;
          t = b;
          u = A.u;
          comes = resume_joins setting z low high init d o w p (act setting how (o - d) b A.u) ∙ sym (finish_joint J setting b w p A S.stands Jt);
          within = omega (arith, outer_less J A d);
          rank = r';
          kept = kept_trans g.bytes s s g.rank r r' g.lo g.hi S.kept (kept_widen s s r r' A.n S.e g.lo g.hi (omega (arith, J.root.low)) eh K);
          c = A.n;
          m = A.n + (S.e - S.c);
          e = S.e;
          two = record {
            left = rot_right s r A.n S.c S.e b₁ b₂ b st.x S.stands;
            right = rot_left s r A.n S.c S.e b₁ b₂ A.u st.rest A.stands;
            left_fits = S.fits;
            right_fits = A.fits;
            few = omega (arith, S.few, outer_less J A d);
          };
          few = omega (arith, S.few, outer_less J A d);
          pairs = S.pairs;
          brief = S.brief;
          room = omega (arith, S.room, spare_last z low mid high init d d o (nodes b) A.u A.mid_is);
          based = S.based;
          mark = S.report.place;
          report = emitted_after S.report P.report;
          outside = outside_kept (length setting.table) (joins z low init high d) s s a (paired (b_pair how)) r r' g.lo A.n S.e g.hi (omega arith) K
              (joins_next J A d _ e refl refl refl refl J.low_by J.high_from J.offset_fits);
        }

  pub b_pairs : (how : Pairing) {rep' : Report} {st' : State} → Joint s st.rest st.x (offset_in s st.rest) st.offset (into_b how (offset_in s st.rest) st.offset) → Paired s rep (b_pair how) (offset_in s st.rest) rep' st' → Moves s rep a st s rep' st'
  b_pairs how Jt P = rw P.state (record { fall = omega (arith, falls s a st W e ne); next = by_joins _ _ _ _ _ _ _ e (λ setting z low mid high b w p g n le S J short. record { ahead = b_pending how Jt P setting z low mid high b w p g n le S J }) })
