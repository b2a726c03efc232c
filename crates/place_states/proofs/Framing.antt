-- What stands outside of the pair stays where only records of the pair's ranks change: all of it has ranks below or above those.
-- Assumes nothing.
use Rattle.std.proofs.Common.{ℕ, suc, ◌≤◌, List, sym, ap, ◌∙◌, subst, arith}
use Rattle.records.specs.Records.{Cell}
use Rattle.definitions.specs.Usage.{Size}
use Rattle.record_links.specs.Standing.{Root}
use Rattle.record_links.specs.Rows.{Up}
use Rattle.record_links.specs.Frames.{Kept}
use Rattle.record_links.proofs.Stands.{root_same, row_still, down_still, up_still, down_le}
use Rattle.record_links.proofs.Frames.{apart}
use Rattle.place_states.specs.Continuation.{Continuation, entries, element, joins}
use Rattle.place_states.specs.States.{Outside}
use Rattle.place_states.specs.declared.State.{State}

-- a root below the pair
root_below : (s s' : List ℕ) (q : ℕ) (r r' : ℕ → ℕ) (lo c e k : ℕ) (z : Size) → Kept s r s' r' c e → Root s q r lo c k z → Root s' q r' lo c k z
root_below s s' q r r' lo c e k z K R =
    let w = K.outs q (λ x y. omega (arith, R.high)) in
    root_same s s' q r r' lo c lo c k z K.len w.0 (omega (arith, R.low, w.1)) (omega (arith, R.high, w.1)) R

-- the pair, or its result, has the ranks from c to e
pub outside_kept : (k : ℕ) (y : Continuation) (s s' : List ℕ) (a : ℕ) (st : State) (r r' : ℕ → ℕ) (lo c e hi : ℕ) → c ≤ e → Kept s r s' r' c e
    → Outside k y s a st r lo c e hi → Outside k y s' a st r' lo c e hi
unfolding Outside
outside_kept k (entries es) s s' a st r r' lo c e hi ce K h = record {
  rule = h.rule;
  asks = h.asks;
  low = h.low;
  held = row_still es s s' st.rest 0 r r' e hi K.len (apart s s' r r' c e e hi K (omega arith)) h.held;
  lowest = h.lowest;
  fits = h.fits;
}
outside_kept k (element z n) s s' a st r r' lo c e hi ce K h =
    let w = K.outs a (λ x y. absurd (omega (arith, h.root.high))) in
    record {
      rule = h.rule;
      root = root_below s s' a r r' lo c e 4 z K h.root;
      stride = ap (λ (x : Cell). x.argument) w.0 ∙ h.stride;
      high = h.high;
      rest = h.rest;
      size_fits = h.size_fits;
      stride_some = h.stride_some;
      stride_fits = h.stride_fits;
    }
outside_kept k (joins z low mid high d) s s' a st r r' lo c e hi ce K h =
    let m-c = down_le h.mid_down s st.rest r h.m c h.mid_held in
    let w = K.outs a (λ x y. absurd (omega (arith, h.root.high))) in
    record {
      rule = h.rule;
      root = root_below s s' a r r' lo c e 3 z K h.root;
      size_fits = h.size_fits;
      offset = h.offset;
      low_down = h.low_down;
      low_is = h.low_is;
      mid_down = h.mid_down;
      mid_is = h.mid_is;
      m = h.m;
      low_held = subst (λ (n : ℕ). Up h.low_down s' a st.low r' (suc n) h.m) (sym w.1)
          (up_still h.low_down s s' a st.low r r' (suc (r a)) h.m K.len (ap (λ (x : Cell). x.child) w.0) (apart s s' r r' c e (suc (r a)) h.m K (omega arith)) h.low_held);
      mid_held = down_still h.mid_down s s' st.rest r r' h.m c K.len (apart s s' r r' c e h.m c K (omega arith)) h.mid_held;
      high_held = row_still high s s' st.q 0 r r' e hi K.len (apart s s' r r' c e e hi K (omega arith)) h.high_held;
      ascends = h.ascends;
      low_by = h.low_by;
      high_from = h.high_from;
      offset_fits = h.offset_fits;
    }
