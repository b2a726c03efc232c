-- The turns of a fold: what was reported and counted so far, and folding the nodes that are left, together give what folding all of
-- them does. Few nodes are left at each turn, so that no position comes to where positions wrap.
-- Assumes nothing.
use Rattle.std.proofs.Common.{◌≡◌, ℕ, suc, ◌+◌, ◌-◌, ◌*◌, ◌%◌, ◌^◌, ◌<◌, ◌≤◌, List, [], ◌∷◌, ◌++◌, length, drop, sym, refl, ap, ◌∙◌, append-nil, add-one, arith, length-append}
use Rattle.std.specs.Prelude.{Result as Returned, Ok, Err}
use Rattle.definitions.specs.Limits.{node_limit, work_limit}
use Rattle.definitions.specs.Usage.{Usage, nodes, nodes_of, Nodes, all_nodes}
use Rattle.definitions.specs.Command.{argument_width}
use Rattle.definitions.specs.Stream.{read, read_nodes}
use Rattle.definitions.specs.Table.{Setting}
use Rattle.definitions.specs.Place.{Result, refused, done, after, merge_mem, of_node, and_then, fold_from, fold}
use Rattle.definitions.specs.Sound.{Storable}
use Rattle.definitions.specs.Inner.Storable.{AllStorable}
use Rattle.definitions.proofs.Nodes.{some_node}
use Rattle.definitions.proofs.After.{after_nothing, after_both}
use Rattle.definitions.proofs.FewPairings.{merge_mem_few, fold_few}
use Rattle.definitions.proofs.Stored.{merge_mem_storable}
use Rattle.numbers.specs.Words.{Width, number_at}
use Rattle.record_links.specs.Standing.{Stands}
use Rattle.record_links.proofs.Frames.{kept_none}
use Rattle.numbers.proofs.Widths.{argument_width_lem}
use Rattle.layout.specs.Located.{Known}
use Rattle.report.specs.Emitted.{Emitted, SameBuffer}
use Rattle.report.specs.declared.Report.{Report}
use Rattle.report.proofs.Emitting.{emitted_nothing, emitted_after, kept_both, kept_emitted}
use Rattle.place_states.specs.Calls.{ground}
use Rattle.stream_load.specs.Loading.{by_number}
use Rattle.call_answers.specs.Writing.{Reached}
use Rattle.call_fold.specs.Folding.{NodeReady, NodeLoaded, NextReady, of_next, NextDone, ReadOn, NextFolded, Foldable}
use Rattle.call_fold.specs.declared.Folded.{Folded}
use Rattle.layout.specs.declared.setting.Setting.{Setting as CodeSetting}
use Rattle.stream.specs.declared.Span.{Span}
use Rattle.place_states.specs.declared.SizeRefusal.{SizeRefusal}
use Rattle.call_fold.proofs.Lists.{Listed, Counted, nodes_left, list_behind}
use Rattle.call_answers.proofs.Reaching.{reached}

-- 38 and an index are three bytes
node_short : (i : ℕ) (w : List ℕ) → length (of_node i w) ≤ 3 + length w
node_short i [] = omega arith
node_short i (x ∷ w) = omega arith

-- u stands for the nodes so far, with the report w and p pairings; us are left
pub record Folding (st : Setting) (ns : Nodes) (list : List ℕ) (count : ℕ) (rep₀ : Report) (work : List ℕ) (rep : Report) (f : Folded) (i : ℕ) : Type 0 where
  pub u : Usage
  pub w : List ℕ
  pub p : ℕ
  pub us : List Usage
  pub left : ℕ
  pub comes : fold st ns ≡ after w p (fold_from st i u us)
  pub to_come : i + left ≡ count
  pub reads : read_nodes left (drop f.end list) ≡ read us []
  pub within : f.end ≤ length list
  pub rank : ℕ → ℕ
  pub stands : Stands u work f.result.node rank 1 f.free
  pub fresh : (i : ℕ) → f.free ≤ i → rank i ≡ i
  pub room : f.free + nodes_of us ≤ suc node_limit
  pub fits : Storable (length st.table) u
  pub others_fit : AllStorable (length st.table) us
  pub few : nodes u + nodes_of us ≤ node_limit
  pub turns : i + nodes_of us ≤ node_limit
  pub short : length w ≤ i * 2 ^ 22
  pub pairs : f.result.pairings ≡ p % 2 ^ 32
  pub start : rep₀.at ≡ 0
  pub report : Emitted rep₀ w rep

-- The first node

abbrev start : Span → Folded
start l = record { end = l.end; free = 1 + l.nodes; result = record { node = 1; pairings = 0 } }

module _ {code : CodeSetting} {list : List ℕ} {st : Setting} {ns : Nodes} (foldable : Foldable code list st ns) {w : ℕ} (width : w ≡ argument_width 0x0B) where
  pub count_inside : Width w × (1 + w ≤ length list)
  count_inside = rw width (argument_width_lem 0x0B, (list_behind list foldable.is).0)

  all_counted : Counted (number_at w list 1) (drop (1 + w) list) ns []
  all_counted = rw width (list_behind list foldable.is).1

  pub first_ready : {work : List ℕ} → length work ≡ work_limit → NodeReady list (1 + w) work 1
  first_ready area =
      let all = all_counted in
      record {
        usage = ns.first;
        rest = all.behind;
        reads = all.first_reads;
        within = count_inside.1;
        some = omega arith;
        inside = omega (arith, foldable.few);
        few = omega (arith, foldable.few);
      }

  pub first_few : {work work₁ : List ℕ} {l : Span} → NodeLoaded list (1 + w) work 1 work₁ l → l.nodes ≤ node_limit
  first_few loaded = let all = all_counted in omega (arith, foldable.few, loaded.counted ns.first all.behind all.first_reads)

  pub fold_start : {work work₁ : List ℕ} {l : Span} (rep : Report) → rep.at ≡ 0 → {count : ℕ} → count ≡ number_at w list 1
      → NodeLoaded list (1 + w) work 1 work₁ l → Folding st ns list count rep work₁ rep (start l) 1
  unfolding fold by_number
  fold_start {work₁} {l} rep at_0 e loaded =
      let all = all_counted in
      let place : drop l.end list ≡ all.behind = loaded.behind ns.first all.behind all.first_reads in
      record {
        u = ns.first;
        w = [];
        p = 0;
        us = ns.others;
        left = all.others_count;
        comes = sym (after_nothing (fold_from st 1 ns.first ns.others));
        to_come = omega (arith, all.counted);
        reads = rw place all.others_read;
        within = loaded.within;
        rank = by_number;
        stands = rw (loaded.counted ns.first all.behind all.first_reads) at (loaded.stands ns.first all.behind all.first_reads);
        fresh = λ i le. refl;
        room = omega (arith, foldable.few, loaded.counted ns.first all.behind all.first_reads);
        fits = foldable.fits.0;
        others_fit = foldable.fits.1;
        few = foldable.few;
        turns = omega (arith, foldable.few, some_node ns.first);
        short = omega arith;
        pairs = omega arith;
        start = at_0;
        report = emitted_nothing rep (omega arith);
      }

-- The next ones

module _ {st : Setting} {ns : Nodes} {list : List ℕ} {count : ℕ} {rep₀ : Report} {work : List ℕ} {rep : Report} {f : Folded} {i : ℕ} (folding : Folding st ns list count rep₀ work rep f i) where
  next_node : i < count → Listed ◌∷◌ (folding.left - 1) (drop f.end list) folding.us []
  next_node more =
      let one : folding.left ≡ suc (folding.left - 1) = omega (arith, folding.to_come) in
      nodes_left (folding.left - 1) (drop f.end list) (rw one at folding.reads)

  pub turn_ready : {code : CodeSetting} → Known code st → i < count → length work ≡ work_limit → NextReady code list f work rep
  turn_ready known more area =
      let node = next_node more in
      let few : nodes folding.u + nodes_of (node.first ∷ node.others) ≤ node_limit = rw node.is at folding.few in
      let fit : AllStorable (length st.table) (node.first ∷ node.others) = rw node.is at folding.others_fit in
      record {
        setting = st;
        a = folding.u;
        b = node.first;
        rest = node.behind;
        beside =
            record {
              known = known;
              rank = folding.rank;
              stands = folding.stands;
              fresh = folding.fresh;
              reads = node.first_reads;
              left_fits = folding.fits;
              right_fits = fit.0;
              few = omega arith;
            };
        within = folding.within;
        room = omega (arith, rw node.is at folding.room);
        area = area;
        near = omega (arith, folding.start, folding.report.place, folding.short, folding.turns);
      }

  module _ {code : CodeSetting} (known : Known code st) (more : i < count) {work' : List ℕ} {rep' : Report} {r : Returned Folded SizeRefusal} (next : NextFolded code list i f work rep work' rep' r) where
    node_fit : AllStorable (length st.table) ((next_node more).first ∷ (next_node more).others)
    node_fit = rw (next_node more).is at folding.others_fit

    -- what merging the next node gives is left
    left : NextDone (of_next i f.result.pairings (merge_mem st folding.u (next_node more).first)) work' rep rep' r
    left = next.merged st folding.u (next_node more).first (next_node more).behind
        (record {
          known = known;
          rank = folding.rank;
          stands = folding.stands;
          fresh = folding.fresh;
          reads = (next_node more).first_reads;
          left_fits = folding.fits;
          right_fits = node_fit.0;
          few = let was : nodes folding.u + nodes_of ((next_node more).first ∷ (next_node more).others) ≤ node_limit = rw (next_node more).is at folding.few in omega arith;
        })

    -- and the definition goes on with it
    onward : {x : Result Usage} → merge_mem st folding.u (next_node more).first ≡ x
        → fold st ns ≡ after folding.w folding.p (and_then (of_node i) x (λ v. fold_from st (suc i) v (next_node more).others))
    onward e =
        folding.comes
        ∙ ap (λ us. after folding.w folding.p (fold_from st i folding.u us)) (next_node more).is
        ∙ ap (λ y. after folding.w folding.p (and_then (of_node i) y (λ v. fold_from st (suc i) v (next_node more).others))) e

    pub turn_refused : {e : SizeRefusal} → r ≡ Err e → Reached (fold st ns) work' (Err e) rep' × SameBuffer rep₀ rep'
    turn_refused {e} is = go (merge_mem st folding.u (next_node more).first) refl (rw is at left)
      where
        go : (x : Result Usage) → merge_mem st folding.u (next_node more).first ≡ x
            → NextDone (of_next i f.result.pairings x) work' rep rep' (Err e)
            → Reached (fold st ns) work' (Err e) rep' × SameBuffer rep₀ rep'
        go (refused k) e D = rw (onward e) (D.0, kept_both (kept_emitted folding.report) D.1)
        go (done v w q) e D = absurd D

    pub turn_on : {to : Folded} → r ≡ Ok to → Folding st ns list count rep₀ work' rep' to (i + 1)
    turn_on {to} is = go (merge_mem st folding.u (next_node more).first) refl (rw is at left)
      where
        go : (x : Result Usage) → merge_mem st folding.u (next_node more).first ≡ x
            → NextDone (of_next i f.result.pairings x) work' rep rep' (Ok to)
            → Folding st ns list count rep₀ work' rep' to (i + 1)
        go (refused k) e D = absurd D
        go (done v w q) e D =
            let node = next_node more in
            let reads : ReadOn list f to = rw is at next.reads in
            let was : nodes folding.u + nodes_of (node.first ∷ node.others) ≤ node_limit = rw node.is at folding.few in
            let turns : i + nodes_of (node.first ∷ node.others) ≤ node_limit = rw node.is at folding.turns in
            let few = merge_mem_few st {m = nodes folding.u + nodes node.first} folding.u node.first e (omega arith) in
            let short = (merge_mem_few st {m = node_limit} folding.u node.first e (omega arith)).short_report in
            let place : drop to.end list ≡ node.behind = reads.behind node.first node.behind node.first_reads in
            record {
              u = v;
              w = folding.w ++ of_node i w;
              p = folding.p + q;
              us = node.others;
              left = folding.left - 1;
              comes = rw add-one (onward e ∙ after_both folding.w (of_node i w) folding.p q (fold_from st (suc i) v node.others));
              to_come = omega (arith, folding.to_come);
              reads = rw place node.others_read;
              within = reads.within;
              rank = D.rank;
              stands = D.stands;
              fresh = D.fresh;
              room = omega (arith, rw node.is at folding.room, reads.free node.first node.behind node.first_reads);
              fits = merge_mem_storable st (length st.table) folding.u node.first folding.fits node_fit.0 e;
              others_fit = node_fit.1;
              few = omega (arith, few.few_nodes);
              turns = omega (arith, some_node node.first);
              short = omega (arith, short, folding.short, node_short i w, length-append folding.w (of_node i w));
              pairs = omega (arith, D.pairs, folding.pairs);
              start = folding.start;
              report = emitted_after folding.report D.report;
            }

  -- The end

  pub fold_end : all_nodes ns ≤ node_limit → count ≤ i → Reached (fold st ns) work (Ok f.result) rep
  fold_end few all =
      reached node_limit (omega arith) (ground work folding.rank 1 f.free rep₀) folding.start work rep (Ok f.result) (fold st ns) (λ u w p e. fold_few st ns e few)
      (rw is_done (record {
        rank = folding.rank;
        kept = kept_none work folding.rank 1 f.free;
        stands = folding.stands;
        pairs = folding.pairs;
        report = folding.report;
      }))
    where
      none_left : (k : ℕ) (us : List Usage) → k ≡ 0 → read_nodes k (drop f.end list) ≡ read us [] → us ≡ []
      none_left k us e h = let none : read_nodes 0 (drop f.end list) ≡ read us [] = rw e at h in cc

      is_done : fold st ns ≡ done folding.u folding.w folding.p
      is_done =
          let no_more : folding.us ≡ [] = none_left folding.left folding.us (omega (arith, folding.to_come)) folding.reads in
          let sum : folding.p + 0 ≡ folding.p = omega arith in
          folding.comes ∙ rw (no_more, append-nil, sum)
