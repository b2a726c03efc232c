-- Rule 5's end: only the root's link changes, and what it now names has ranks above the root's, so the array stands around what its element
-- has become.
-- Assumes nothing.
use Rattle.std.proofs.Common.{◌≡◌, ℕ, suc, ◌+◌, ◌*◌, ◌<◌, ◌≤◌, List, length, refl, ap, ◌∙◌, arith}
use Rattle.report.specs.declared.Report.{Report}
use Rattle.place_states.specs.declared.Rule.TheVariants.{Element as ByElement}
use Rattle.definitions.specs.Usage.{Usage, array}
use Rattle.definitions.specs.Table.{Setting}
use Rattle.definitions.specs.Place.{done}
use Rattle.records.specs.Records.{Cell, cell, with_child, Set}
use Rattle.record_links.specs.Standing.{Root, Stands}
use Rattle.record_links.specs.Frames.{Kept}
use Rattle.record_links.proofs.Stands.{stands_root, stands_le, stands_still, stands_wide, root_wide}
use Rattle.record_links.proofs.Frames.{kept_set, kept_trans, kept_widen, apart}
use Rattle.record_links.proofs.Changes.{root_set}
use Rattle.place_states.specs.Calls.{Ground}
use Rattle.place_states.specs.Continuation.{Continuation, finish}
use Rattle.place_states.specs.States.{Outside, SoFar, Next, Waiting, Moves}
use Rattle.place_states.specs.Finished.{finished_state}
use Rattle.place_states.specs.declared.State.{State}
use Rattle.place_states.proofs.Ending.{next_finished, moves_finished}
use Rattle.place_states.proofs.Outside.{IsElement, is_element, standing_element, waiting_element}
use Rattle.place_arrays.specs.Arrays.{Wrapped}

pub root_inside : (s : List ℕ) (a : ℕ) (st : State) → Waiting s a st → st.rule ≡ ByElement → a * 32 + 32 ≤ length s
unfolding Outside
root_inside s a st W rule = go (waiting_element W rule) W.outside
  where
    go : {y : Continuation} → IsElement y → Outside W.k y s a st W.rank W.lo W.c W.e W.hi → a * 32 + 32 ≤ length s
    go (is_element z n) h = h.root.inside

pub element_small : (s : List ℕ) (a : ℕ) (st : State) → Waiting s a st → st.x < 65536
element_small s a st W = omega (arith, (stands_root W.u s st.x W.rank W.c W.e W.stands).inside, W.linkable)

pub wrapped : (s s₁ : List ℕ) (a : ℕ) (st st' : State) → st.rule ≡ ByElement → length s₁ ≡ length s → Set s s₁ a (with_child st.x (cell s a))
    → st' ≡ finished_state a st.pairings → Wrapped s a st s₁ st'
unfolding finish Stands Outside
wrapped s s₁ a st st' rule len C e = record {
  moves = λ rep. moves_finished s rep a st s₁ rep st' a st.pairings e (λ setting y u w p g n within S short. go rep setting n (standing_element S rule) S);
}
  where
    go : (rep : Report) (setting : Setting) {y : Continuation} {u : Usage} {w : List ℕ} {p : ℕ} {g : Ground} (n : ℕ) → IsElement y
        → SoFar (length setting.table) y u w p g s rep a st → Next setting (finish setting y u w p) g n s₁ rep a (finished_state a st.pairings)
    go rep setting {u} {w} {p} {g} n (is_element z k) S =
        let h = S.outside in
        let r : ℕ → ℕ = S.rank in
        let R : Root s a r g.lo S.c 4 z = h.root in
        let c-e = stands_le u s st.x r S.c S.e S.stands in
        let K : Kept s r s₁ r g.lo S.c = kept_set s s₁ r g.lo S.c a (with_child st.x (cell s a)) len R.low R.high C in
        let T : Stands u s₁ st.x r S.c S.e = stands_still u s s₁ st.x r r S.c S.e len (apart s s₁ r r g.lo S.c S.c S.e K (omega arith)) S.stands in
        let own : 1 + p ≡ suc p = omega arith in
        next_finished setting g n s₁ rep a (done (array z k u) w (1 + p)) a st.pairings (record {
          rank = r;
          kept = kept_trans g.bytes s s₁ g.rank r r g.lo g.hi S.kept (kept_widen s s₁ r r g.lo S.c g.lo g.hi (omega arith) (omega (arith, h.high)) K);
          stands = (
            root_wide s₁ a r g.lo S.c g.lo g.hi 4 z (omega arith) (omega (arith, h.high))
                (rw R.size at (root_set s s₁ a r g.lo S.c (with_child st.x (cell s a)) 4 z len C refl R)),
            ap (λ (x : Cell). x.argument) C.here ∙ h.stride,
            rw (ap (λ (x : Cell). x.child) C.here) (stands_wide u s₁ st.x r S.c S.e (suc (r a)) g.hi (omega (arith, R.high)) h.high T),
          );
          pairs = rw own S.pairs;
          report = S.report;
        })

-- for a caller, who knows the report
pub wrapped_moves : (s s' : List ℕ) (rep : Report) (a : ℕ) (st st' : State) → Wrapped s a st s' st' → Moves s rep a st s' rep st'
wrapped_moves s s' rep a st st' X = X.moves rep
