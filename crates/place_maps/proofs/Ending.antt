-- Nothing is left to be joined, or a straddle: what is left of the map stands, and its report, with 30 before it or 36 in its place.
-- Assumes nothing.
use Prim.Native.Nat.{ℕ, suc}
use mathlib.Core.Path.{◌≡◌, refl, sym, ap, ◌∙◌, subst}
use mathlib.Core.Bool.{false}
use mathlib.Core.List.{List, []}
use lib.ListN.{length}
use native.Mathlib.Omega.{arith}
use Rattle.definitions.specs.Usage.{Size, Usage, map, Entries, none, entry, ◌<+>◌}
use Rattle.definitions.specs.Place.{done, after, insert, of_rule, straddle_conflict}
use Rattle.definitions.specs.Sound.{Ascends}
use Rattle.definitions.proofs.Nodes.{few_entries}
use Rattle.records.specs.Records.{Cell, cell, next_in, offset_in, with_next, with_offset, Set}
use Rattle.record_links.specs.Standing.{Stands, Row}
use Rattle.record_links.specs.Rows.{Down, Up, onto}
use Rattle.record_links.specs.Frames.{Kept}
use Rattle.record_links.proofs.Stands.{stands_root, root_same, stands_le, row_le, down_le, up_le, row_low, up_still, row_still}
use Rattle.record_links.proofs.Frames.{kept_trans, kept_set, kept_widen, apart, set_trans}
use Rattle.record_links.proofs.Changes.{stands_relink}
use Rattle.record_links.proofs.Entries.{rev_app, onto_nodes}
use Rattle.record_links.proofs.Rows.{row_one, bottom, down_none}
use Rattle.report.specs.Emitted.{Emitted}
use Rattle.report.proofs.Emitting.{emitted_over}
use Rattle.report.specs.declared.Report.{Report}
use Rattle.place_states.specs.Continuation.{joins, finish}
use Rattle.place_states.specs.States.{Joins, Waiting, Moves}
use Rattle.place_states.specs.Finished.{finished_state, Unheaded}
use Rattle.place_states.specs.declared.State.{State}
use Rattle.place_states.specs.declared.Rule.TheVariants.{Join as ByJoin}
use Rattle.place_states.proofs.Ending.{next_finished, moves_finished, emitted_unheaded}
use Rattle.place_maps.specs.Runs.{Ahead, Run, Reversed}
use Rattle.place_maps.specs.Joining.{without, Passed, Made, Concatenated, Inserted, apart as straddling, Joint, Straddled}
use Rattle.place_maps.proofs.Downward.{finish_straddled, finish_none}
use Rattle.place_maps.proofs.Inserting.{insert_onto}
use Rattle.place_maps.proofs.Stepping.{by_joins, waits, taken, finish_joint, outer_less}

-- A straddle

-- those below, linked downwards, and those above
hangs : (fs gs : Entries) (r : ℕ → ℕ) (m n hi : ℕ) (s : List ℕ) (p q : ℕ) → Down fs s p r m n → Row gs s q 0 r n hi → Ahead false fs none gs r hi n m m s p 0 q
hangs fs gs r m n hi s p q D W = record { run = (D, refl); rest = (down_none s r m, refl); back = W }

-- what is to be linked upwards again
pub fallen : (s : List ℕ) (a : ℕ) (st : State) (left : ℕ) → Waiting s a st → st.rule ≡ ByJoin → (st.rest ≡ 0 → ⊥) → left ≡ next_in s st.rest → Run s left 0 st.q
fallen s a st left W e ne el =
    let X = waits s a st W e in
    let J = X.joins in
    let A = taken J ne in
    let nc = stands_le A.u s st.rest X.r A.n X.c A.stands in
    let ce = stands_le X.u s st.x X.r X.c X.e X.stands in
    rw el (record {
      up = false;
      es = A.init_down;
      fs = none;
      gs = X.high;
      r = X.r;
      y = X.hi;
      n = A.n;
      m = J.m;
      z = J.m;
      ahead = hangs A.init_down X.high X.r J.m A.n X.hi s (next_in s st.rest) st.q A.down (row_low X.high s st.q 0 X.r X.e A.n X.hi (omega arith) J.high_held);
      few = omega (arith, X.few, few_entries A.init_down, onto_nodes A.init_down none, outer_less J A 0);
      linkable = W.linkable;
    })

-- s₁: they are linked upwards; s₂: the map has them
pub straddled : {s : List ℕ} {rep : Report} {a : ℕ} {st : State} {o : ℕ} {s₁ s₂ : List ℕ} {rep' : Report} {st' : State} {left head : ℕ} → left ≡ next_in s st.rest → length s₁ ≡ length s
    → Reversed s left 0 st.q s₁ head → Concatenated s₁ a st.low head s₂ → Emitted (record rep { at = st.base }) (straddle_conflict o st.offset) rep' → st' ≡ finished_state a st.pairings
    → Straddled s rep a st o s₂ rep' st'
straddled {s} {rep} {a} {st} {o} {s₁} {s₂} {rep'} {st'} {left} {head} el len H C E f = record {
  state = f;
  report = E;
  made = λ z es fs gs r lo m n hi R U D W.
      let X = H.back false fs none gs r hi n m m (hangs fs gs r m n hi s left st.q (rw el D) W) in
      let am = up_le es s a st.low r (suc (r a)) m U in
      let mn = down_le fs s (next_in s st.rest) r m n D in
      let nh = row_le gs s st.q 0 r n hi W in
      let ca : cell s₁ a ≡ cell s a = (X.kept.outs a (omega arith)).0 in
      let U₁ : Up es s₁ a st.low r (suc (r a)) m = up_still es s s₁ a st.low r r (suc (r a)) m len (ap (λ (x : Cell). x.child) ca) (apart s s₁ r r m n (suc (r a)) m X.kept (omega arith)) U in
      let M : Made (map z (onto es (onto fs gs))) s₁ a r lo hi s₂ = C.made z es (onto fs gs) r lo m hi (root_same s s₁ a r r lo hi lo hi 3 z len ca R.low R.high R) U₁ X.line in
      record { stands = M.stands; kept = kept_trans s s₁ s₂ r r r lo hi (kept_widen s s₁ r r m n lo hi (omega (arith, R.low)) nh X.kept) M.kept };
}

pub straddles : (s : List ℕ) (rep : Report) (a : ℕ) (st : State) {s' : List ℕ} {rep' : Report} {st' : State} → st.rule ≡ ByJoin → (st.rest ≡ 0 → ⊥)
    → Joint s st.rest st.x (offset_in s st.rest) st.offset (straddling (offset_in s st.rest) st.offset) → Straddled s rep a st (offset_in s st.rest) s' rep' st' → Moves s rep a st s' rep' st'
unfolding straddling
straddles s rep a st {s'} {rep'} e ne Jt T = moves_finished s rep a st s' rep' _ a st.pairings T.state (by_joins _ _ _ _ _ _ _ e (λ setting z low mid high b w p g n le S J short.
    let o : ℕ = offset_in s st.rest in
    let d : ℕ = st.offset in
    let r : ℕ → ℕ = S.rank in
    let A = taken J ne in
    let init : Entries = onto A.init_down none in
    let goal : finish setting (joins z low mid high d) b w p ≡ after [] 1 (done (map z (low <+> init <+> high)) (straddle_conflict o d) p) =
    finish_joint J setting b w p A S.stands Jt ∙ finish_straddled setting z low high init (straddle_conflict o d) p in
    let fits = rw goal at short in
    let nc = stands_le A.u s st.rest r A.n S.c A.stands in
    let ce = stands_le b s st.x r S.c S.e S.stands in
    let eh = row_le high s st.q 0 r S.e g.hi J.high_held in
    let M = T.made z J.low_down A.init_down high r g.lo J.m A.n g.hi (root_same s s a r r g.lo S.c g.lo g.hi 3 z refl refl J.root.low (omega (arith, J.root.high)) J.root) J.low_held A.down
    (row_low high s st.q 0 r S.e A.n g.hi (omega arith) J.high_held) in
    let is : onto J.low_down (onto A.init_down high) ≡ low <+> init <+> high = rev_app J.low_down (onto A.init_down high) ∙ ap (λ x. x <+> onto A.init_down high) (sym J.low_is) ∙ ap (λ x. low <+> x) (rev_app A.init_down high) in
    rw goal (next_finished setting g n s' rep' a (after [] 1 (done (map z (low <+> init <+> high)) (straddle_conflict o d) p)) a st.pairings (record {
      rank = r;
      kept = kept_trans g.bytes s s' g.rank r r g.lo g.hi S.kept M.kept;
      stands = subst (λ (x : Entries). Stands (map z x) s' a r g.lo g.hi) is M.stands;
      pairs = omega (arith, S.pairs);
      report = emitted_over S.report (rw S.based at T.report) (λ _. omega (arith, S.brief, fits.1));
    }))))

-- The end

-- s₁, s₂: b has its offset, and is linked to those above; s₃: the map has it
module _ (s s₁ s₂ s₃ : List ℕ) (rep rep' : Report) (a : ℕ) (st : State) (above : ℕ) (e : st.rule ≡ ByJoin) (z : st.rest ≡ 0) (l₁ : length s₁ ≡ length s) (l₂ : length s₂ ≡ length s₁) (P : Passed s st.q st.offset above)
    (C₁ : Set s s₁ st.x (with_offset st.offset (cell s st.x))) (C₂ : Set s₁ s₂ st.x (with_next above (cell s₁ st.x))) (N : Inserted s₂ a st.low st.x st.offset s₃)
    (U : Unheaded st.base rep rep') where
  len : length s₂ ≡ length s
  len = l₂ ∙ l₁

  C : Set s s₂ st.x (with_next above (cell s₁ st.x))
  C = set_trans s s₁ s₂ st.x (with_offset st.offset (cell s st.x)) (with_next above (cell s₁ st.x)) C₁ C₂

  whole : {k : ℕ} {y : Size} {low mid high : Entries} {r : ℕ → ℕ} {lo c f hi : ℕ} (b : Usage) → Joins k y low mid high st.offset s a st r lo c f hi → Stands b s st.x r c f
      → Made (map y (insert st.offset b (low <+> high))) s a r lo hi s₃
  unfolding onto
  whole {k} {y} {low} {mid} {high} {r} {lo} {c} {f} {hi} b J B =
      let x : ℕ = st.x in
      let d : ℕ = st.offset in
      let T = stands_root b s x r c f B in
      let R = J.root in
      let mc = down_le J.mid_down s st.rest r J.m c J.mid_held in
      let am = up_le J.low_down s a st.low r (suc (r a)) J.m J.low_held in
      let cf = stands_le b s x r c f B in
      let fh = row_le high s st.q 0 r f hi J.high_held in
      let K : Kept s r s₂ r c f = kept_set s s₂ r c f x (with_next above (cell s₁ x)) len T.low T.high C in
      let ca : cell s₂ a ≡ cell s a = C.others a (λ q. omega (arith, T.low, R.high, ap r q)) in
      let U₂ : Up J.low_down s₂ a st.low r (suc (r a)) J.m = up_still J.low_down s s₂ a st.low r r (suc (r a)) J.m len (ap (λ (q : Cell). q.child) ca)
      (apart s s₂ r r c f (suc (r a)) J.m K (omega arith)) J.low_held in
      let B₂ : Stands b s₂ x r c f = stands_relink b s s₂ x r c f (with_next above (cell s₁ x)) len C (ap (λ (q : Cell). q.command) C₁.here) (ap (λ (q : Cell). q.child) C₁.here)
      (ap (λ (q : Cell). q.size) C₁.here) (ap (λ (q : Cell). q.argument) C₁.here) B in
      let H : Row (without d high) s₂ (next_in s₂ x) 0 r f hi = subst (λ (q : ℕ). Row (without d high) s₂ q 0 r f hi) (sym (ap (λ (q : Cell). q.next) C₂.here))
      (row_still (without d high) s s₂ above 0 r r f hi len (apart s s₂ r r c f f hi K (omega arith)) (P.row high r f hi J.high_held)) in
      let W : Row (entry d b (without d high)) s₂ x 0 r J.m hi = row_low (entry d b (without d high)) s₂ x 0 r c J.m hi mc
      (row_one s₂ d b (without d high) x 0 r c f hi (ap (λ (q : Cell). q.offset) C₂.here ∙ ap (λ (q : Cell). q.offset) C₁.here) B₂ H) in
      let M = N.made y J.low_down (without d high) b r lo J.m hi (root_same s s₂ a r r lo c lo hi 3 y len ca R.low (omega (arith, R.high)) R) U₂ W in
      let nothing : mid ≡ none = J.mid_is ∙ ap (λ q. onto q none) (bottom J.mid_down s st.rest r J.m c z J.mid_held) in
      let up : Ascends k 0 (onto J.low_down none <+> high) = subst (λ (q : Entries). Ascends k 0 (q <+> high)) J.low_is (rw nothing at J.ascends) in
      let is : onto (without d J.low_down) (entry d b (without d high)) ≡ insert d b (low <+> high) =
      sym (ap (λ q. insert d b (q <+> high)) J.low_is ∙ insert_onto d b k J.low_down high up (rw J.low_is at J.low_by) J.high_from) in
      record {
        stands = subst (λ (q : Entries). Stands (map y q) s₃ a r lo hi) is M.stands;
        kept = kept_trans s s₂ s₃ r r r lo hi (kept_widen s s₂ r r c f lo hi (omega (arith, R.low, R.high)) fh K) M.kept;
      }

  pub ends : {st' : State} → st' ≡ finished_state a st.pairings → Moves s rep a st s₃ rep' st'
  unfolding onto
  ends f = moves_finished s rep a st s₃ rep' _ a st.pairings f (by_joins _ _ _ _ _ _ _ e (λ setting y low mid high b w p g n le S J short.
      let nothing : mid ≡ none = J.mid_is ∙ ap (λ q. onto q none) (bottom J.mid_down s st.rest S.rank J.m S.c z J.mid_held) in
      let d : ℕ = st.offset in
      let goal = finish_none setting y low high d b w p nothing in
      let fits = rw goal at short in
      let M = whole b J S.stands in
      rw goal (next_finished setting g n s₃ rep' a (after [] 1 (done (map y (insert d b (low <+> high))) (of_rule w) p)) a st.pairings (record {
        rank = S.rank;
        kept = kept_trans g.bytes s s₃ g.rank S.rank S.rank g.lo g.hi S.kept M.kept;
        stands = M.stands;
        pairs = omega (arith, S.pairs);
        report = emitted_unheaded w S.report fits.0 (rw S.based at U);
      }))))
