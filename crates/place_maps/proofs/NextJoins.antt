-- What `next_join` leaves at each return: the tests on offsets and ends decide how the highest entry and b are joined.
-- Assumes nothing.
use Prim.Native.Nat.{ℕ, ◌-◌, ◌<◌, ◌≤◌}
use mathlib.Core.Path.{◌≡◌, sym, ◌∙◌}
use Rattle.std.proofs.Common.{Ordering, Less, Equal, Greater, nat_cmp}
use Rattle.std.specs.Ordering.{MatchOrdering}
use Rattle.std.specs.Cmp.{ranked}
use mathlib.Core.List.{List}
use native.Mathlib.Omega.{arith}
use Rattle.definitions.specs.Place.{ends}
use Rattle.records.specs.Records.{size_in, offset_in}
use Rattle.report.specs.declared.Report.{Report}
use Rattle.place_states.specs.States.{Waiting, Moves}
use Rattle.place_states.specs.declared.State.{State}
use Rattle.place_states.specs.declared.Rule.TheVariants.{Join as ByJoin}
use Rattle.place_states.specs.declared.Pairing.TheVariants.{Place, Merge}
use Rattle.place_states.specs.declared.Todo.TheVariants.{Pair}
use Rattle.place_search.specs.Numbers.{Denotes}
use Rattle.place_maps.specs.Joining.{Paired, Straddled}
use Rattle.place_maps.proofs.Deciding.{straddles_below, straddles_above, entry_takes, b_takes, b_merges}
use Rattle.place_maps.proofs.Receiving.{entry_receives, b_pairs}
use Rattle.place_maps.proofs.Ending.{straddles}

module _ (s : List ℕ) (rep : Report) (a : ℕ) (st : State) (o y z : ℕ) {k : Ordering} (W : Waiting s a st) (e : st.rule ≡ ByJoin) (ne : st.rest ≡ 0 → ⊥) (eo : o ≡ offset_in s st.rest) (ek : k ≡ nat_cmp o st.offset) where
  says : (v : Ordering) → k ≡ v → MatchOrdering v (o < st.offset) (o ≡ st.offset) (st.offset < o)
  says v ev = ranked o st.offset v (sym ev ∙ ek)

  module _ (M : Denotes y (ends o (size_in s st.rest))) (N : Denotes z (ends st.offset (size_in s st.x))) where
    pub lower_straddles : {s' : List ℕ} {rep' : Report} {st' : State} → k ≡ Less → y < z → Straddled s rep a st o s' rep' st' → Moves s rep a st s' rep' st'
    lower_straddles ev less T = let lt = says Less ev in straddles s rep a st e ne (straddles_below (rw eo at M) N (omega arith) less) (rw eo at T)

    pub upper_straddles : {s' : List ℕ} {rep' : Report} {st' : State} → k ≡ Greater → z < y → Straddled s rep a st o s' rep' st' → Moves s rep a st s' rep' st'
    upper_straddles ev less T = let lt = says Greater ev in straddles s rep a st e ne (straddles_above (rw eo at M) N (omega arith) less) (rw eo at T)

    pub lower_receives : {d : ℕ} {rep' : Report} {st' : State} → k ≡ Less → z ≤ y → d ≡ st.offset - o → Paired s rep (record st { todo = Pair Place; x = st.rest; d = d; m = st.x; offset = o }) o rep' st' → Moves s rep a st s rep' st'
    lower_receives ev le ed P = let lt = says Less ev in entry_receives s rep a st W e ne (omega arith) (entry_takes (rw eo at M) N (omega arith) le) (rw (ed, eo) at P)

    pub upper_receives : {d : ℕ} {rep' : Report} {st' : State} → k ≡ Greater → y ≤ z → d ≡ o - st.offset → Paired s rep (record st { todo = Pair Place; d = d; m = st.rest }) o rep' st' → Moves s rep a st s rep' st'
    upper_receives ev le ed P = let lt = says Greater ev in b_pairs s rep a st W e ne Place (b_takes (rw eo at M) N (omega arith) le) (rw (ed, eo) at P)

  pub equal_merges : {rep' : Report} {st' : State} → k ≡ Equal → Paired s rep (record st { todo = Pair Merge; d = 0; m = st.rest }) o rep' st' → Moves s rep a st s rep' st'
  equal_merges ev P =
      let same = says Equal ev in
      let none : 0 ≡ o - st.offset = omega arith in
      b_pairs s rep a st W e ne Merge (b_merges s st.rest st.x (offset_in s st.rest) st.offset (omega arith) (omega arith)) (rw (none, eo) at P)
