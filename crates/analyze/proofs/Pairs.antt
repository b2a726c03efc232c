-- What a pair that has been placed or merged gave: the definitions bound it, and only records of the pair's ranks have changed.
-- Assumes nothing.
use Rattle.std.proofs.Common.{◌≡◌, ℕ, ◌+◌, ◌-◌, ◌*◌, ◌^◌, ◌<◌, ◌≤◌, List, length, arith}
use Rattle.std.proofs.Math.Nat.{mul-le-mul_right}
use Rattle.std.specs.Prelude.{Ok}
use Rattle.definitions.specs.Limits.{max32}
use Rattle.definitions.specs.Usage.{Usage, nodes, nodes_in}
use Rattle.definitions.specs.Table.{Setting}
use Rattle.definitions.specs.Place.{Result, done, place}
use Rattle.definitions.specs.Sound.{Storable}
use Rattle.definitions.specs.Inner.Pairs.{pairs}
use Rattle.definitions.proofs.Results.{answered}
use Rattle.definitions.proofs.Bound.{place_within, merge_mem_within}
use Rattle.definitions.proofs.Stored.{place_storable, merge_mem_storable}
use Rattle.record_links.proofs.Stands.{stands_le}
use Rattle.record_links.proofs.Frames.{kept_trans, kept_widen}
use Rattle.report.specs.declared.Report.{Report}
use Rattle.report.proofs.Emitting.{emitted_after}
use Rattle.place_states.specs.Calls.{Ground, Answered, Done, ground}
use Rattle.place_states.specs.Continuation.{Continuation, entries, element, joins, spare, act}
use Rattle.place_states.specs.States.{Pending}
use Rattle.place_states.specs.PairResult.{PairResult, HasResult}
use Rattle.place_states.specs.declared.State.{State}
use Rattle.place_states.specs.declared.Merged.{Merged}
use Rattle.place_states.specs.declared.Pairing.{Pairing}
use Rattle.place_states.specs.declared.Pairing.TheVariants.{Place, Merge}
use Rattle.place_states.proofs.Answering.{done_ok}
use Rattle.place_states.proofs.Framing.{outside_kept}
use Rattle.analyze.proofs.Waits.{outside_inside}

-- What a pair gives, if it is not refused

record Gives (k : ℕ) (t u r : Usage) (w : List ℕ) (p : ℕ) : Type 0 where
  fits : Storable k r
  few_nodes : nodes r ≤ nodes t + nodes u
  paid : p + pairs r ≤ pairs t + pairs u + nodes t * nodes u
  short : length w ≤ 14 * p - 5

place_gives : (st : Setting) (k d : ℕ) (t u : Usage) {r : Usage} {w : List ℕ} {p : ℕ} → d ≤ max32 → Storable k t → Storable k u → place st t d u ≡ done r w p → Gives k t u r w p
place_gives st k d t u le ht hu q =
    let b = (answered (place_within st t d u) q).1 in
    record { fits = place_storable st k t d u ht hu le q; few_nodes = b.few_nodes; paid = b.paid; short = b.short_report }

act_gives : (st : Setting) (k : ℕ) (how : Pairing) (d : ℕ) (t u : Usage) {r : Usage} {w : List ℕ} {p : ℕ} → d ≤ max32 → Storable k t → Storable k u
    → act st how d t u ≡ done r w p → Gives k t u r w p
unfolding act
act_gives st k Place d t u le ht hu q = place_gives st k d t u le ht hu q
act_gives st k Merge d t u le ht hu q =
    let b = (answered (merge_mem_within st t u) q).1 in
    record { fits = merge_mem_storable st k t u ht hu q; few_nodes = b.few_nodes; paid = b.paid; short = b.short_report }

spare_more : (y : Continuation) (m n : ℕ) → m ≤ n → spare y m ≤ spare y n
spare_more (entries es) m n h = omega (arith, mul-le-mul_right (nodes_in es) h)
spare_more (element z k) m n h = omega arith
spare_more (joins z low mid high d) m n h = omega (arith, mul-le-mul_right (nodes_in mid) h)

module _ {how : Pairing} {setting : Setting} {goal : Result Usage} {g : Ground} {n : ℕ} {s : List ℕ} {rep : Report} {a : ℕ} {st : State} where
  -- where the pair's call begins
  abbrev pub pair_ground : Pending how setting goal g n s rep a st → Ground
  pair_ground Q = ground s Q.rank Q.c Q.e rep

  module _ (Q : Pending how setting goal g n s rep a st) (s₂ : List ℕ) (rep₂ : Report) (m : Merged) (d-fits : st.d ≤ max32) where
    pub gave : {v : Usage} {w : List ℕ} {p : ℕ} → act setting how st.d Q.t Q.u ≡ done v w p → Answered v w p (pair_ground Q) s₂ m rep₂
        → PairResult (length setting.table) Q.y Q.o Q.w Q.p g n v w p s₂ rep₂ a st m
    gave {v} is D =
        let G = act_gives setting (length setting.table) how st.d Q.t Q.u d-fits Q.two.left_fits Q.two.right_fits is in
        let I = outside_inside (length setting.table) Q.y s a st Q.rank g.lo Q.c Q.e g.hi Q.outside in
        record {
          rank = D.rank;
          kept = kept_trans g.bytes s s₂ g.rank Q.rank D.rank g.lo g.hi Q.kept (kept_widen s s₂ Q.rank D.rank Q.c Q.e g.lo g.hi I.0 I.1 D.kept);
          c = Q.c;
          e = Q.e;
          stands = D.stands;
          fits = G.fits;
          within = omega (arith, Q.within, G.few_nodes);
          few = omega (arith, Q.few, G.few_nodes);
          pairs = D.pairs;
          short = G.short;
          room = omega (arith, Q.room, G.paid, spare_more Q.y (nodes v) (nodes Q.t + nodes Q.u) G.few_nodes);
          report = emitted_after Q.report D.report;
          outside = outside_kept (length setting.table) Q.y s s₂ a st Q.rank D.rank g.lo Q.c Q.e g.hi (omega (arith, stands_le Q.t s st.x Q.rank Q.c Q.m Q.two.left, stands_le Q.u s st.m Q.rank Q.m Q.e Q.two.right)) D.kept Q.outside;
        }

    pub has_result : g.report.at < 2 ^ 63 → Done (act setting how st.d Q.t Q.u) (pair_ground Q) s₂ (Ok m) rep₂ → HasResult setting goal g n s₂ rep₂ a st rep.at m
    has_result near D =
        let R = done_ok (act setting how st.d Q.t Q.u) D in
        record {
          y = Q.y;
          o = Q.o;
          w = Q.w;
          p = Q.p;
          u = R.u;
          w' = R.w;
          p' = R.q;
          comes = rw R.is at Q.comes;
          gave = gave R.is R.answered;
          pairs = Q.pairs;
          brief = Q.brief;
          near = near;
          based = Q.based;
          mark = Q.mark;
          was = Q.report.place;
        }
