-- One node more of a fold: it stands behind what the nodes so far have come to, the two are merged, and a 38 with nothing behind it is
-- taken back. The positions stay far from where they wrap, since few nodes have a short report.
-- Assumes nothing.
use native.Mathlib.Decide.{ℕ_discrete}
use Rattle.std.proofs.Common.{◌≡◌, ℕ, ◌+◌, ◌%◌, ◌^◌, ◌<◌, ◌≤◌, List, [], ◌∷◌, ◌++◌, length, refl, ◌∙◌, subst, arith}
use native.Mathlib.Decide.{dec_lt}
use Rattle.std.specs.Prelude.{Ok, Err}
use Rattle.definitions.specs.Limits.{node_limit}
use Rattle.definitions.specs.Usage.{Usage, nodes}
use Rattle.definitions.specs.Stream.{bytes}
use Rattle.definitions.specs.Table.{Setting}
use Rattle.definitions.specs.Place.{Result, refused, done, merge_mem, of_node}
use Rattle.definitions.proofs.FewPairings.{merge_mem_few}
use Rattle.record_links.specs.Standing.{Stands}
use Rattle.record_links.specs.Rows.{nodes_at}
use Rattle.record_links.proofs.Stands.{stands_le, stands_still}
use Rattle.report.specs.Emitted.{Emitted, TakenBack}
use Rattle.report.specs.declared.Report.{Report}
use Rattle.report.proofs.Emitting.{emitted_after, emitted_back, emitted_same, kept_both, kept_emitted}
use Rattle.place_states.proofs.Starting.{ready_two}
use Rattle.place_states.specs.Calls.{Two, Ready, NoWrap, Ground, ground, Answered, Done, merging, Placed}
use Rattle.place_states.specs.declared.SizeRefusal.{SizeRefusal}
use Rattle.place_states.specs.declared.Merged.{Merged}
use Rattle.layout.specs.declared.setting.Setting.{Setting as CodeSetting}
use Rattle.stream.specs.declared.Span.{Span}
use Rattle.stream_load.specs.Loading.{by_number}
use Rattle.call_fold.specs.Folding.{NodeReady, NodeLoaded, Beside, NextReady, of_next, NextDone, NextFolded}
use Rattle.call_fold.specs.declared.Folded.{Folded}
use Rattle.call_inputs.proofs.Lending.{near_two}

-- The report of one node

module _ (i : ℕ) {rep rep₁ rep₂ : Report} (low : rep.at ≤ 2 ^ 61) (head : Emitted rep (0x38 ∷ bytes 2 i) rep₁) where
  -- where the position is what follows the index, nothing was reported
  index_back : rep₂.at ≡ rep₁.at → (w : List ℕ) → length w < 2 ^ 61 → Emitted rep₁ w rep₂ → Emitted rep (of_node i w) (record rep₂ { at = rep.at })
  index_back e w short E =
      let none : w ≡ [] = emitted_same E e (omega (arith, head.place)) (omega arith) in
      let both : Emitted rep ([] ++ (0x38 ∷ bytes 2 i)) rep₂ = rw none at (emitted_after head E) in
      rw none (emitted_back [] (0x38 ∷ bytes 2 i) both (omega arith) (λ _. omega arith))

  index_kept : (rep₂.at ≡ rep₁.at → ⊥) → (w : List ℕ) → length w < 2 ^ 61 → Emitted rep₁ w rep₂ → Emitted rep (of_node i w) rep₂
  index_kept ne [] short E = absurd (ne (omega (arith, E.place, head.place)))
  index_kept ne (x ∷ xs) short E = emitted_after head E

  pub index_taken : {rep₃ : Report} → TakenBack rep₁.at rep.at rep₂ rep₃ → (w : List ℕ) → length w < 2 ^ 61 → Emitted rep₁ w rep₂ → Emitted rep (of_node i w) rep₃
  index_taken T w short E = elim (ℕ_discrete rep₂.at rep₁.at) [
    | yes same ↦ rw (T.empty same) (index_back same w short E)
    | no other ↦ rw (T.other other) (index_kept other w short E)
  ]

module _ {code : CodeSetting} {list : List ℕ} {f : Folded} {work : List ℕ} {rep : Report} (ready : NextReady code list f work rep) where
  pub next_node_ready : NodeReady list f.end work f.free
  next_node_ready =
      let B = ready.beside in
      record {
        usage = ready.b;
        rest = ready.rest;
        reads = B.reads;
        within = ready.within;
        some = omega (arith, stands_le ready.a work f.result.node B.rank 1 f.free B.stands);
        inside = omega (arith, ready.room, ready.area);
        few = omega (arith, ready.room);
      }

  module _ {work₁ : List ℕ} {next : Span} (same : length work₁ ≡ length work) (loaded : NodeLoaded list f.end work f.free work₁ next) where
    next_two : (st : Setting) (a b : Usage) (rest : List ℕ) (B : Beside code list f work st a b rest) → Two (length st.table) work₁ f.result.node f.free B.rank 1 f.free (f.free + nodes b) a b
    unfolding by_number
    next_two st a b rest B = record {
      left = stands_still a work work₁ f.result.node B.rank B.rank 1 f.free same (λ i low high. (loaded.kept i (below i high), refl)) B.stands;
      right = stands_still b work₁ work₁ f.free by_number B.rank f.free (f.free + nodes b) refl (λ i low high. (refl, B.fresh i low)) (loaded.stands b rest B.reads);
      left_fits = B.left_fits;
      right_fits = B.right_fits;
      few = B.few;
    }
      where
        below : (i : ℕ) → B.rank i < f.free → i < f.free
        below i high = elim (dec_lt i f.free) [
          | yes lt ↦ lt
          | no le ↦ absurd (omega (arith, B.fresh i (omega arith)))
        ]

    pub next_merges : Ready code work₁ f.result.node f.free
    next_merges = ready_two ready.setting (next_two ready.setting ready.a ready.b ready.rest ready.beside) ready.beside.known (omega (arith, ready.area))

    pub next_near : (at : ℕ) → at ≤ 2305843009213693955 → NoWrap at (nodes_at work₁ f.result.node + nodes_at work₁ f.free)
    next_near at low = near_two (next_two ready.setting ready.a ready.b ready.rest ready.beside) at low

    module _ {work₂ : List ℕ} (i : ℕ) {rep₁ rep₂ : Report} where
      -- what the definition gives is left

      pub next_refused : {bs : List ℕ} → Emitted rep bs rep₁ → {e : SizeRefusal} → Placed merging code work₁ f.result.node f.free work₂ (Err e) rep₁ rep₂ → NextFolded code list i f work rep work₂ rep₂ (Err e)
      unfolding merging
      next_refused head {e} placed = record {
        merged = λ st a b rest B. go _ head (merge_mem st a b) (placed.done st B.known a b B.rank 1 f.free (f.free + nodes b) (next_two st a b rest B));
        reads = tt;
      }
        where
          go : (g : Ground) {bs : List ℕ} → Emitted rep bs g.report → (x : Result Usage) → Done x g work₂ (Err e) rep₂ → NextDone (of_next i f.result.pairings x) work₂ rep rep₂ (Err e)
          go g head (refused n) D = (D.0, kept_both (kept_emitted head) D.1)
          go g head (done u w q) D = absurd D

      pub next_folded : {r : Merged} → Placed merging code work₁ f.result.node f.free work₂ (Ok r) rep₁ rep₂
          → {p : ℕ} {rep₃ : Report} → p ≡ (f.result.pairings + r.pairings) % 2 ^ 32
          → ((w : List ℕ) → length w < 2 ^ 61 → Emitted rep₁ w rep₂ → Emitted rep (of_node i w) rep₃)
          → NextFolded code list i f work rep work₂ rep₃
          (Ok (record { end = next.end; free = f.free + next.nodes; result = record { node = r.node; pairings = p } }))
      unfolding merging
      next_folded {r} placed {p} {rep₃} sum report = record {
        merged = λ st a b rest B. go st a b rest B (merge_mem st a b) refl (placed.done st B.known a b B.rank 1 f.free (f.free + nodes b) (next_two st a b rest B));
        reads = record {
          free = λ b rest e. omega (arith, loaded.counted b rest e);
          behind = loaded.behind;
          within = loaded.within;
        };
      }
        where
          go : (st : Setting) (a b : Usage) (rest : List ℕ) (B : Beside code list f work st a b rest) (x : Result Usage) → merge_mem st a b ≡ x
              → Done (merging st a b) (ground work₁ B.rank 1 (f.free + nodes b) rep₁) work₂ (Ok r) rep₂
              → NextDone (of_next i f.result.pairings x) work₂ rep rep₃ (Ok (record { end = next.end; free = f.free + next.nodes; result = record { node = r.node; pairings = p } }))
          go st a b rest B (refused n) e D = absurd (rw e at D)
          go st a b rest B (done u w q) e D =
              let F : Answered u w q (ground work₁ B.rank 1 (f.free + nodes b) rep₁) work₂ r rep₂ = rw e at D in
              let few = merge_mem_few st {m = node_limit} a b e B.few in
              let n : nodes b ≡ next.nodes = loaded.counted b rest B.reads in
              record {
                rank = F.rank;
                stands = subst (λ (m : ℕ). Stands u work₂ r.node F.rank 1 (f.free + m)) n F.stands;
                fresh = λ j le. (F.kept.outs j (λ low high. omega (arith, B.fresh j (omega arith)))).1 ∙ B.fresh j (omega arith);
                pairs = omega (arith, F.pairs);
                report = report w (omega (arith, few.short_report)) F.report;
              }
