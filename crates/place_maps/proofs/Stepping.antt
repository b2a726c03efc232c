-- A step of rule 6 begins by taking apart what stands: the highest of the entries to be joined, those below it, those below all of
-- them and those above.
-- Assumes nothing.
use Prim.Native.Nat.{ℕ, suc, ◌+◌, ◌*◌, ◌≤◌}
use mathlib.Core.Path.{◌≡◌, refl, sym, subst, ap, ◌∙◌}
use mathlib.Core.List.{List}
use lib.ListN.{length}
use native.Mathlib.Omega.{arith}
use Rattle.definitions.specs.Limits.{max32, node_limit}
use Rattle.definitions.specs.Usage.{Size, Usage, Entries, none, entry, size, nodes, nodes_in, count, ◌<+>◌}
use Rattle.definitions.specs.Table.{Setting}
use Rattle.definitions.specs.Place.{Joining}
use Rattle.definitions.specs.Sound.{Storable, Ascends}
use Rattle.definitions.proofs.Nodes.{append_nodes, few_entries}
use Rattle.definitions.proofs.Storable.{ascends_back}
use Rattle.records.specs.Records.{next_in, size_in, offset_in}
use Rattle.record_links.specs.Standing.{Stands}
use Rattle.record_links.specs.Rows.{Down, onto, chain}
use Rattle.record_links.proofs.Chains.{down_falls}
use Rattle.record_links.proofs.Entries.{append_assoc, rev_app, onto_nodes}
use Rattle.record_links.proofs.Stands.{stands_root, root_same, down_le, up_le}
use Rattle.record_links.proofs.Rows.{Top, top, row_in, down_in, up_in}
use Rattle.report.specs.declared.Report.{Report}
use Rattle.place_states.specs.Continuation.{Continuation, entries, element, joins, finish, outer, UpTo, FromOn}
use Rattle.place_states.specs.States.{Joins, Outside, SoFar, Short, Next, Waiting}
use Rattle.place_states.specs.declared.State.{State}
use Rattle.place_states.specs.declared.Rule.{Rule}
use Rattle.place_states.specs.declared.Rule.TheVariants.{Entries as ByEntries, Element as ByElement, Join as ByJoin}
use Rattle.place_states.specs.Calls.{Ground}
use Rattle.place_maps.specs.Joining.{Within, Joint}
use Rattle.place_maps.proofs.Entries.{Under, under_of, under_front, ascends_without}
use Rattle.place_maps.proofs.Downward.{down_from, finish_last}

other : {A : Type 0} {x : Rule} → x ≡ ByJoin → x ≡ ByEntries → A
other e h = absurd (cc)

another : {A : Type 0} {x : Rule} → x ≡ ByJoin → x ≡ ByElement → A
another e h = absurd (cc)

-- in rule 6 what is outside of b is a map
module _ (s : List ℕ) (rep : Report) (a : ℕ) (st : State) (s' : List ℕ) (rep' : Report) (st' : State) where
  abbrev StepsAt : Setting → Size → Entries → Entries → Entries → Usage → List ℕ → ℕ → Ground → ℕ → ℕ → Type 0
  StepsAt setting z low mid high b w p g n d =
      nodes b + outer (joins z low mid high d) ≤ n
      → (S : SoFar (length setting.table) (joins z low mid high d) b w p g s rep a st)
      → Joins (length setting.table) z low mid high d s a st S.rank g.lo S.c S.e g.hi
      → Short g.report.at (finish setting (joins z low mid high d) b w p)
      → Next setting (finish setting (joins z low mid high d) b w p) g n s' rep' a st'

  pub by_joins : st.rule ≡ ByJoin
      → ((setting : Setting) (z : Size) (low mid high : Entries) (b : Usage) (w : List ℕ) (p : ℕ) (g : Ground) (n : ℕ) → StepsAt setting z low mid high b w p g n st.offset)
      → (setting : Setting) (y : Continuation) (u : Usage) (w : List ℕ) (p : ℕ) (g : Ground) (n : ℕ) → nodes u + outer y ≤ n
      → SoFar (length setting.table) y u w p g s rep a st → Short g.report.at (finish setting y u w p)
      → Next setting (finish setting y u w p) g n s' rep' a st'
  unfolding Outside
  by_joins e f setting (entries es) u w p g n le S h = other e S.outside.rule
  by_joins e f setting (element z m) u w p g n le S h = another e S.outside.rule
  by_joins e f setting (joins z low mid high d) u w p g n le S h =
      let J : Joins (length setting.table) z low mid high d s a st S.rank g.lo S.c S.e g.hi = S.outside in
      subst (StepsAt setting z low mid high u w p g n) J.offset (f setting z low mid high u w p g n) le S J h

-- the same of what waits
pub record Waits (s : List ℕ) (a : ℕ) (st : State) : Type 0 where
  pub k : ℕ
  pub z : Size
  pub low : Entries
  pub mid : Entries
  pub high : Entries
  pub u : Usage
  pub r : ℕ → ℕ
  pub lo : ℕ
  pub c : ℕ
  pub e : ℕ
  pub hi : ℕ
  pub stands : Stands u s st.x r c e
  pub joins : Joins k z low mid high st.offset s a st r lo c e hi
  pub few : nodes_in mid + nodes_in high ≤ node_limit

pub waits : (s : List ℕ) (a : ℕ) (st : State) → Waiting s a st → st.rule ≡ ByJoin → Waits s a st
unfolding Outside
waits s a st W e = go W.y W.outside W.few
  where
    go : (y : Continuation) → Outside W.k y s a st W.rank W.lo W.c W.e W.hi → nodes W.u + outer y ≤ node_limit → Waits s a st
    go (entries es) h few = other e h.rule
    go (element z m) h few = another e h.rule
    go (joins z low mid high d) h few = record {
      k = W.k;
      z = z;
      low = low;
      mid = mid;
      high = high;
      u = W.u;
      r = W.rank;
      lo = W.lo;
      c = W.c;
      e = W.e;
      hi = W.hi;
      stands = W.stands;
      joins = subst (λ (x : ℕ). Joins W.k z low mid high x s a st W.rank W.lo W.c W.e W.hi) (sym h.offset) h;
      few = omega arith;
    }

-- Where a state's records are: none is record 0, which the bytes have too

pub within : (s : List ℕ) (a : ℕ) (st : State) → Waiting s a st → st.rule ≡ ByJoin → Within s a st
within s a st W e =
    let X = waits s a st W e in
    let J = X.joins in
    let some : 32 ≤ length s = omega (arith, J.root.inside) in
    record {
      a_in = J.root.inside;
      x_in = (stands_root X.u s st.x X.r X.c X.e X.stands).inside;
      low_in = up_in J.low_down s a st.low X.r (suc (X.r a)) J.m (length s) some (omega arith) J.low_held;
      rest_in = down_in J.mid_down s st.rest X.r J.m X.c (length s) some (omega arith) J.mid_held;
      q_in = row_in X.high s st.q X.r X.e X.hi (length s) some (omega arith) J.high_held;
      linkable = W.linkable;
    }

pub rest_in : (s : List ℕ) (a : ℕ) (st : State) → Waiting s a st → st.rule ≡ ByJoin → st.rest * 32 + 32 ≤ length s
rest_in s a st W e = (within s a st W e).rest_in

pub x_in : (s : List ℕ) (a : ℕ) (st : State) → Waiting s a st → st.rule ≡ ByJoin → st.x * 32 + 32 ≤ length s
x_in s a st W e = (within s a st W e).x_in

-- the highest of the entries to be joined, u, stands at record `rest`, and those below it are init
pub record Taken (k : ℕ) (low mid high : Entries) (s : List ℕ) (st : State) (r : ℕ → ℕ) (m c : ℕ) : Type 0 where
  pub init_down : Entries
  pub u : Usage
  pub n : ℕ
  pub mid_is : mid ≡ onto init_down none <+> entry (offset_in s st.rest) u none
  pub down : Down init_down s (next_in s st.rest) r m n
  pub stands : Stands u s st.rest r n c
  pub sized : size u ≡ size_in s st.rest
  pub fits : Storable k u
  pub offset_fits : offset_in s st.rest ≤ max32
  pub ascends : Ascends k 0 (low <+> onto init_down none <+> high)
  pub low_under : Under (offset_in s st.rest) low

module _ {k : ℕ} {z : Size} {low mid high : Entries} {d : ℕ} {s : List ℕ} {a : ℕ} {st : State} {r : ℕ → ℕ} {lo c e hi : ℕ} (J : Joins k z low mid high d s a st r lo c e hi) where
  pub taken : (st.rest ≡ 0 → ⊥) → Taken k low mid high s st r J.m c
  unfolding onto
  taken ne =
      let v : Top J.mid_down s st.rest r J.m c = top J.mid_down s st.rest r J.m c ne J.mid_held in
      let o : ℕ = offset_in s st.rest in
      let u : Usage = v.u in
      let init : Entries = onto v.rest none in
      let is : mid ≡ init <+> entry o u none = J.mid_is ∙ ap (λ x. onto x none) v.is ∙ rev_app v.rest (entry o u none) in
      let all : low <+> mid <+> high ≡ low <+> init <+> entry o u high = ap (λ x. low <+> x <+> high) is ∙ ap (λ x. low <+> x) (append_assoc init (entry o u none) high) in
      let ascends : Ascends k 0 (low <+> init <+> entry o u high) = rw all at J.ascends in
      let own = ascends_back k init (entry o u high) 0 (ascends_back k low (init <+> entry o u high) 0 ascends) in
      record {
        init_down = v.rest;
        u = u;
        n = v.m;
        mid_is = is;
        down = v.down;
        stands = v.stands;
        sized = sym (stands_root u s st.rest r v.m c v.stands).size;
        fits = own.2;
        offset_fits = own.1;
        ascends = ascends_without k low init o u high ascends;
        low_under = under_front low init o (under_of k (low <+> init) o u high 0 (rw (append_assoc low init (entry o u high)) ascends));
      }

  -- the goal, once u and b are joined as f says
  pub finish_joint : (setting : Setting) (b : Usage) (w : List ℕ) (p : ℕ) {f : Setting → Usage → Usage → List ℕ → ℕ → Joining} (A : Taken k low mid high s st r J.m c) → Stands b s st.x r c e
      → Joint s st.rest st.x (offset_in s st.rest) st.offset f
      → finish setting (joins z low mid high st.offset) b w p ≡ down_from setting z low high (onto A.init_down none) (f setting A.u b w p)
  finish_joint setting b w p A stands Jt =
      finish_last setting z low high (onto A.init_down none) (offset_in s st.rest) A.u st.offset b w p A.mid_is
      (Jt.comes setting A.u b w p A.sized (sym (stands_root b s st.x r c e stands).size))

  -- the nodes of u are no longer outside
  pub outer_less : (A : Taken k low mid high s st r J.m c) (d' : ℕ) → outer (joins z low mid high d) ≡ nodes A.u + outer (joins z low (onto A.init_down none) high d')
  outer_less A d' = omega (arith, ap nodes_in A.mid_is, append_nodes (onto A.init_down none) (entry (offset_in s st.rest) A.u none))

  -- what is outside of the next pair, once u and b have left it
  pub joins_next : (A : Taken k low mid high s st r J.m c) (d' : ℕ) (st' : State) → st'.rule ≡ ByJoin → st'.offset ≡ d' → st'.rest ≡ next_in s st.rest → st'.q ≡ st.q → st'.low ≡ st.low
      → UpTo d' low → FromOn d' high → d' ≤ max32 → Joins k z low (onto A.init_down none) high d' s a st' r lo A.n e hi
  joins_next A d' st' rule offset rest upper lowest low_by high_from fits =
      let am = up_le J.low_down s a st.low r (suc (r a)) J.m J.low_held in
      let mn = down_le A.init_down s (next_in s st.rest) r J.m A.n A.down in
      record {
        rule = rule;
        root = root_same s s a r r lo c lo A.n 3 z refl refl J.root.low (omega arith) J.root;
        size_fits = J.size_fits;
        offset = offset;
        low_down = J.low_down;
        low_is = J.low_is;
        mid_down = A.init_down;
        mid_is = refl;
        m = J.m;
        low_held = rw lowest J.low_held;
        mid_held = rw rest A.down;
        high_held = rw upper J.high_held;
        ascends = A.ascends;
        low_by = low_by;
        high_from = high_from;
        offset_fits = fits;
      }

-- one entry less is to be joined
pub falls : (s : List ℕ) (a : ℕ) (st : State) → Waiting s a st → st.rule ≡ ByJoin → (st.rest ≡ 0 → ⊥) → chain 65536 s (next_in s st.rest) + 1 ≤ chain 65536 s st.rest
falls s a st W e ne =
    let X = waits s a st W e in
    let J = X.joins in
    let few : count J.mid_down ≤ 65536 = omega (arith, X.few, few_entries J.mid_down, onto_nodes J.mid_down none, ap nodes_in J.mid_is) in
    down_falls J.mid_down s st.rest X.r J.m X.c few ne J.mid_held
