-- The loop of a placing: whatever goal its first state stood for, each later one stands for too, since a turn goes on from what stands, or places or merges the pending pair.
-- Assumes nothing.
use Rattle.std.proofs.Common.{◌≡◌, ℕ, ◌+◌, ◌*◌, ◌^◌, ◌<◌, ◌≤◌, List, [], ◌∷◌, ◌++◌, length, length-append, refl, sym, ap, ◌∙◌, arith}
use Rattle.std.specs.Prelude.{Result as Outcome, Ok, Err}
use Rattle.definitions.specs.Limits.{max32}
use Rattle.definitions.specs.Usage.{Usage, nodes}
use Rattle.definitions.specs.Table.{Setting}
use Rattle.definitions.specs.Place.{Result, refused, place}
use Rattle.layout.specs.declared.setting.Setting.{Setting as CodeSetting}
use Rattle.layout.specs.Located.{Known}
use Rattle.record_links.specs.Rows.{chain, nodes_at}
use Rattle.place_states.specs.Calls.{Two, Ready, NoWrap, Linkable, Ground, Done, ground, placing, merging, Placed}
use Rattle.place_states.specs.Continuation.{Continuation, entries, element, joins, heading, entry_head, resume, act, outer}
use Rattle.report.specs.declared.Report.{Report}
use Rattle.place_states.specs.Refusals.{number_of}
use Rattle.place_states.specs.Finished.{merged_of}
use Rattle.place_states.specs.States.{Pending, Next, Short, Waiting, turns}
use Rattle.place_states.specs.Starts.{Began}
use Rattle.place_states.specs.declared.State.{State}
use Rattle.place_states.specs.declared.Merged.{Merged}
use Rattle.place_states.specs.declared.SizeRefusal.{SizeRefusal}
use Rattle.place_states.specs.declared.Pairing.{Pairing}
use Rattle.place_states.specs.declared.Pairing.TheVariants.{Place, Merge}
use Rattle.place_states.specs.declared.Todo.TheVariants.{Finished, Go, Pair}
use Rattle.place_states.proofs.Ahead.{next_ends, next_holds, next_pair}
use Rattle.report.proofs.Emitting.{kept_both, kept_emitted}
use Rattle.place_states.proofs.Answering.{done_ok, done_err, refused_done, done_kept}
use Rattle.place_states.proofs.Room.{place_short}
use Rattle.place_states.proofs.Starting.{ready_two, two_nodes}
use Rattle.place_rules.specs.Results.{TakesResult}
use Rattle.place_rules.proofs.TakingResults.{result_next}
use Rattle.analyze.proofs.Waits.{outside_chain}
use Rattle.analyze.proofs.Pairs.{pair_ground, gave, has_result}

-- each state stands for whatever the first one stood for
pub record Loop (code : CodeSetting) (s₀ : List ℕ) (rep₀ : Report) (st₀ : State) (at a : ℕ) (s : List ℕ) (rep : Report) (st : State) : Type 0 where
  pub len : length s ≡ length s₀
  pub next : (setting : Setting) → Known code setting → (goal : Result Usage) (g : Ground) (n : ℕ) → g.report.at ≡ at → Short at goal
      → Next setting goal g n s₀ rep₀ a st₀ → Next setting goal g n s rep a st

-- what is done with a pair
abbrev pub acting : Pairing → ℕ → Setting → Usage → Usage → Result Usage
acting how d setting t u = act setting how d t u

resume_refused : (setting : Setting) (y : Continuation) (o : ℕ) (w : List ℕ) (p k : ℕ) → resume setting y o w p (refused k) ≡ refused k
unfolding resume
resume_refused setting y o w p k = refl

-- what is refused at once
pub begun_refused : {code : CodeSetting} {sₑ s : List ℕ} {repₑ rep : Report} {a d b : ℕ} {e : SizeRefusal} → Began code sₑ a d b repₑ s rep (Err e) → Placed (placing d) code sₑ a b s (Err e) repₑ rep
unfolding placing
begun_refused {s} {rep} {d} {e} B = record {
  done = λ setting known t u r lo mid hi two. refused_done (place setting t d u) (ground _ r lo hi _) s e rep (B.next setting known t u r lo mid hi two);
}

module _ {code : CodeSetting} {sₑ s₀ s : List ℕ} {repₑ rep₀ rep : Report} {a d b : ℕ} {st₀ st : State} (R : Ready code sₑ a b) (near : NoWrap repₑ.at (nodes_at sₑ a + nodes_at sₑ b))
    (B : Began code sₑ a d b repₑ s₀ rep₀ (Ok st₀)) (L : Loop code s₀ rep₀ st₀ repₑ.at a s rep st) where
  low : repₑ.at ≤ 2 ^ 62
  low = omega arith

  -- of any two usages that stood there
  stands_for : (setting : Setting) → Known code setting → (t u : Usage) (r : ℕ → ℕ) (lo mid hi : ℕ) → Two (length setting.table) sₑ a b r lo mid hi t u
      → Next setting (place setting t d u) (ground sₑ r lo hi repₑ) (nodes t + nodes u) s rep a st
  stands_for setting known t u r lo mid hi two = L.next setting known (place setting t d u) (ground sₑ r lo hi repₑ) (nodes t + nodes u) refl
      (place_short setting t d u repₑ.at (omega (arith, two.few)) low) (B.next setting known t u r lo mid hi two)

  pub loop_last : st.todo ≡ Finished → Placed (placing d) code sₑ a b s (Ok (merged_of st)) repₑ rep
  unfolding placing
  loop_last e = record { done = λ setting known t u r lo mid hi two. next_ends (stands_for setting known t u r lo mid hi two) e }

  -- the pair's refusal is the goal's
  pub loop_refused : {how : Pairing} → st.todo ≡ Pair how → {s₂ : List ℕ} {rep₂ : Report} {e : SizeRefusal} → Placed (acting how st.d) code s st.x st.m s₂ (Err e) rep rep₂
      → Placed (placing d) code sₑ a b s₂ (Err e) repₑ rep₂
  unfolding placing
  loop_refused {how} asks {s₂} {rep₂} {e} P = record {
    done = λ setting known t u r lo mid hi two.
        let Q = next_pair (stands_for setting known t u r lo mid hi two) asks in
        let D = P.done setting known Q.t Q.u Q.rank Q.c Q.m Q.e Q.two in
        let x = done_err (act setting how st.d Q.t Q.u) _ s₂ e rep₂ D in
        refused_done (place setting t d u) (ground sₑ r lo hi repₑ) s₂ e rep₂
        (sym Q.comes ∙ ap (resume setting Q.y Q.o Q.w Q.p) x ∙ resume_refused setting Q.y Q.o Q.w Q.p (number_of e), kept_both (kept_emitted Q.report) (done_kept (act setting how st.d Q.t Q.u) _ s₂ (Err e) rep₂ D));
  }

  -- of the two that the call has at hand
  abbrev here : Ground
  here = ground sₑ R.r R.lo R.hi repₑ

  abbrev all : ℕ
  all = nodes R.t + nodes R.u

  pub alive : Next R.setting (place R.setting R.t d R.u) here all s rep a st
  alive = stands_for R.setting R.known R.t R.u R.r R.lo R.mid R.hi R.two

  linkable : length s₀ ≡ length sₑ → Linkable s
  linkable l = omega (arith, L.len, R.linkable)

  pub loop_waits : length s₀ ≡ length sₑ → st.todo ≡ Go → Waiting s a st
  loop_waits l held =
      let H = next_holds alive held in
      let S = H.standing in
      record {
        k = length R.setting.table;
        y = H.y;
        u = H.u;
        rank = S.rank;
        lo = R.lo;
        c = S.c;
        e = S.e;
        hi = R.hi;
        stands = S.stands;
        fits = S.fits;
        few = S.few;
        outside = S.outside;
        linkable = linkable l;
      }

  -- A pair is pending

  module _ {how : Pairing} (asks : st.todo ≡ Pair how) where
    abbrev pending : Pending how R.setting (place R.setting R.t d R.u) here all s rep a st
    pending = next_pair alive asks

    pair_less : nodes_at s st.x + nodes_at s st.m < nodes_at sₑ a + nodes_at sₑ b
    pair_less = omega (arith, two_nodes R.two, two_nodes pending.two, pending.within, outer_some pending.y)
      where
        outer_some : (y : Continuation) → 1 ≤ outer y
        outer_some (entries es) = omega arith
        outer_some (element z n) = omega arith
        outer_some (joins z low mid high o) = omega arith

    pair_ready : length s₀ ≡ length sₑ → Ready code s st.x st.m
    pair_ready l = ready_two R.setting pending.two R.known (linkable l)

    headed : (y : Continuation) (w : List ℕ) (o : ℕ) → length ((heading y ++ w) ++ entry_head y o) ≤ length w + 6
    headed (entries es) w o = omega (arith, length-append (0x30 ∷ w) (entry_head (entries es) o))
    headed (element z n) w o = omega (arith, length-append w [])
    headed (joins z low mid high e) w o = omega (arith, length-append (0x30 ∷ w) (entry_head (joins z low mid high e) o))

    pair_near : NoWrap rep.at (nodes_at s st.x + nodes_at s st.m)
    pair_near = let Q = pending in omega (arith, near, pair_less, Q.report.place, headed Q.y Q.w Q.o, Q.brief, Q.room)

    -- what the call for the pair is asked
    pub pair_asked : length s₀ ≡ length sₑ → (nodes_at s st.x + nodes_at s st.m < nodes_at sₑ a + nodes_at sₑ b) × Ready code s st.x st.m × NoWrap rep.at (nodes_at s st.x + nodes_at s st.m)
    pair_asked l = (pair_less, pair_ready l, pair_near)

-- Turns

module _ {code : CodeSetting} {s₀ s : List ℕ} {rep₀ rep : Report} {st₀ st : State} {at a : ℕ} (L : Loop code s₀ rep₀ st₀ at a s rep st) where
  -- the call's answer is what the state asks for
  module _ {how : Pairing} (asks : st.todo ≡ Pair how) (near : at ≤ 2 ^ 62) {s₂ : List ℕ} {rep₂ rep₃ : Report} {r : Merged}
      (P : Placed (acting how st.d) code s st.x st.m s₂ (Ok r) rep rep₂)
      {st' : State} (D : TakesResult st rep.at r rep₂ rep₃ st') (d-fits : st'.d ≤ max32) where
    was-fits : st.d ≤ max32
    was-fits = omega (arith, ap (λ (x : State). x.d) D.state)

    done_pair : (setting : Setting) → Known code setting → {goal : Result Usage} {g : Ground} {n : ℕ} (Q : Pending how setting goal g n s rep a st)
        → Done (act setting how st.d Q.t Q.u) (pair_ground Q) s₂ (Ok r) rep₂
    done_pair setting known Q = P.done setting known Q.t Q.u Q.rank Q.c Q.m Q.e Q.two

    pub loop_again : length s₂ ≡ length s → Loop code s₀ rep₀ st₀ at a s₂ rep₃ st'
    loop_again ls = record {
      len = ls ∙ L.len;
      next = λ setting known goal g n base short N.
          let Q = next_pair (L.next setting known goal g n base short N) asks in result_next D (has_result Q s₂ rep₂ r was-fits (omega arith) (done_pair setting known Q));
    }

    -- what comes after is linked as before
    pub chain_less : (setting : Setting) → Known code setting → {goal : Result Usage} {g : Ground} {n : ℕ} → Next setting goal g n s rep a st
        → chain 65536 s₂ st'.rest * 3 + turns st'.todo < chain 65536 s st.rest * 3 + turns st.todo
    chain_less setting known {g} X =
        let Q = next_pair X asks in
        let V = done_ok (act setting how st.d Q.t Q.u) (done_pair setting known Q) in
        let G = gave Q s₂ rep₂ r was-fits V.is V.answered in
        let before = outside_chain (length setting.table) Q.y s a st Q.rank g.lo Q.c Q.e g.hi (omega (arith, Q.few)) Q.outside in
        let after = outside_chain (length setting.table) Q.y s₂ a st G.rank g.lo G.c G.e g.hi (omega (arith, Q.few)) G.outside in
        rw D.state (omega (arith, before, after, ap turns asks))

-- the two calls that a state asks for
module _ {how : Pairing} {code : CodeSetting} {s s' : List ℕ} {x m : ℕ} {r : Outcome Merged SizeRefusal} {rep rep' : Report} where
  pub placed_pair : (d : ℕ) → how ≡ Place → Placed (placing d) code s x m s' r rep rep' → Placed (acting how d) code s x m s' r rep rep'
  unfolding placing act
  placed_pair d e P = rw e (record { done = P.done })

  pub merged_pair : (d : ℕ) → how ≡ Merge → Placed merging code s x m s' r rep rep' → Placed (acting how d) code s x m s' r rep rep'
  unfolding merging act
  merged_pair d e P = rw e (record { done = P.done })
