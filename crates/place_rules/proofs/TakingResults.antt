-- What the pair gave stands where the pair stood, and what is left to do follows: its pairings are added, its 31 is taken back where nothing was
-- reported, which the positions tell since a report never comes round to them.
-- Assumes nothing.
use Rattle.std.proofs.Common.{◌≡◌, ℕ, suc, ◌+◌, ◌-◌, ◌*◌, ◌%◌, ◌^◌, ◌<◌, ◌≤◌, List, [], ◌∷◌, ◌++◌, length, sym, ap, ◌∙◌, append_assoc, append-nil, arith, length-append}
use native.Mathlib.Decide.{ℕ_discrete}
use Rattle.definitions.specs.Usage.{Usage}
use Rattle.definitions.specs.Stream.{bytes}
use Rattle.definitions.specs.Table.{Setting}
use Rattle.definitions.specs.Place.{Result, of_entry}
use Rattle.definitions.proofs.Reports.{of_entry as of_entry_lem}
use Rattle.report.specs.Emitted.{Emitted, TakenBack}
use Rattle.report.specs.declared.Report.{Report}
use Rattle.report.proofs.Emitting.{emitted_back}
use Rattle.place_states.specs.Calls.{Ground}
use Rattle.place_states.specs.Continuation.{Continuation, entries, element, joins, heading, entry_head, marked, resume}
use Rattle.place_states.specs.States.{Outside, Next}
use Rattle.place_states.specs.PairResult.{PairResult, HasResult}
use Rattle.place_states.specs.declared.State.{State}
use Rattle.place_states.specs.declared.Merged.{Merged}
use Rattle.place_rules.specs.Results.{held_state, TakesResult}

-- with 31 and o before what the pair reported, or with neither
entry_report : {r₀ r r' : Report} {here mark : ℕ} (w : List ℕ) (o : ℕ) (w' : List ℕ) → r₀.at + length w + length w' + 6 < 2 ^ 64
    → mark ≡ (r₀.at + length (0x30 ∷ w)) % 2 ^ 64 → here ≡ (r₀.at + length ((0x30 ∷ w) ++ (0x31 ∷ bytes 4 o))) % 2 ^ 64
    → Emitted r₀ (((0x30 ∷ w) ++ (0x31 ∷ bytes 4 o)) ++ w') r → TakenBack here mark r r' → Emitted r₀ (0x30 ∷ (w ++ of_entry o w')) r'
entry_report w o [] short em eh E U =
    let head : length ((0x30 ∷ w) ++ (0x31 ∷ bytes 4 o)) ≡ suc (length w) + 5 = length-append (0x30 ∷ w) (0x31 ∷ bytes 4 o) in
    let E₁ = simp append-nil at E in
    rw (U.empty (omega (arith, E₁.place))) (simp append-nil (emitted_back (0x30 ∷ w) (0x31 ∷ bytes 4 o) E₁ em (λ _. omega arith)))
entry_report w o (x ∷ xs) short em eh E U =
    let head : length ((0x30 ∷ w) ++ (0x31 ∷ bytes 4 o)) ≡ suc (length w) + 5 = length-append (0x30 ∷ w) (0x31 ∷ bytes 4 o) in
    let all = length-append ((0x30 ∷ w) ++ (0x31 ∷ bytes 4 o)) (x ∷ xs) in
    rw (U.other (λ same. omega (arith, E.place))) (simp append_assoc at E)

-- rule 5 heads nothing, so there is no 31 to be taken back
unmarked_here : {here mark : ℕ} {r r' : Report} → here ≡ mark → TakenBack here mark r r' → r' ≡ r
unmarked_here {here} {r} e U = elim (ℕ_discrete r.at here) [
  | yes same ↦ U.empty same ∙ ap (λ (n : ℕ). record r { at = n }) (sym (same ∙ e))
  | no other ↦ U.other other
]

-- the reports of the rules
goes_on : (y : Continuation) {k o : ℕ} {w : List ℕ} {p : ℕ} {g : Ground} {n : ℕ} {u : Usage} {w' : List ℕ} {p' : ℕ} {s : List ℕ} {rep rep' : Report} {a : ℕ} {st : State} {here : ℕ} {m : Merged}
    → PairResult k y o w p g n u w' p' s rep a st m → length w ≤ 14 * p → g.report.at < 2 ^ 63 → st.mark ≡ (g.report.at + length (heading y ++ w)) % 2 ^ 64
    → here ≡ (g.report.at + length ((heading y ++ w) ++ entry_head y o)) % 2 ^ 64 → TakenBack here st.mark rep rep' → Emitted g.report (heading y ++ (w ++ marked y o w')) rep'
goes_on (entries es) {o} {w} {w'} G brief near em eh U = entry_report w o w' (omega (arith, G.short, G.room)) em eh G.report U
goes_on (element z n) {w} {g} {w'} {rep} G brief near em eh U =
    let E : Emitted g.report ((w ++ []) ++ w') rep = G.report in
    rw (unmarked_here (rw (append-nil w) at eh ∙ sym em) U) (rw (append-nil w) at E)
goes_on (joins z low mid high d) {o} {w} {w'} G brief near em eh U = entry_report w o w' (omega (arith, G.short, G.room)) em eh G.report U

marked_short : (y : Continuation) (o : ℕ) (w' : List ℕ) (p' : ℕ) → length w' ≤ 14 * p' - 5 → length (marked y o w') ≤ 14 * p'
marked_short (entries es) o w' p' h = of_entry_lem o w' p' h
marked_short (element z n) o w' p' h = omega arith
marked_short (joins z low mid high d) o w' p' h = of_entry_lem o w' p' h

-- what is outside of the pair is outside of what it has become
outside_held : (k : ℕ) (y : Continuation) (s : List ℕ) (a : ℕ) (st : State) (r : Merged) (pairings at : ℕ) (rank : ℕ → ℕ) (lo c e hi : ℕ) → Outside k y s a st rank lo c e hi
    → Outside k y s a (held_state st r pairings at) rank lo c e hi
unfolding Outside
outside_held k (entries es) s a st r pairings at rank lo c e hi h = record { rule = h.rule; asks = λ e. absurd (cc); low = h.low; held = h.held; lowest = h.lowest; fits = h.fits }
outside_held k (element z n) s a st r pairings at rank lo c e hi h = record {
  rule = h.rule;
  root = h.root;
  stride = h.stride;
  high = h.high;
  rest = h.rest;
  size_fits = h.size_fits;
  stride_some = h.stride_some;
  stride_fits = h.stride_fits;
}
outside_held k (joins z low mid high d) s a st r pairings at rank lo c e hi h = record {
  rule = h.rule;
  root = h.root;
  size_fits = h.size_fits;
  offset = h.offset;
  low_down = h.low_down;
  low_is = h.low_is;
  mid_down = h.mid_down;
  mid_is = h.mid_is;
  m = h.m;
  low_held = h.low_held;
  mid_held = h.mid_held;
  high_held = h.high_held;
  ascends = h.ascends;
  low_by = h.low_by;
  high_from = h.high_from;
  offset_fits = h.offset_fits;
}

-- what `take_result` leaves, from which the goal is reached
pub result_next : {st : State} {here : ℕ} {m : Merged} {t : State} {n : ℕ} {s : List ℕ} {rep rep' : Report} {a : ℕ} {setting : Setting} {goal : Result Usage} {g : Ground}
    → TakesResult st here m rep rep' t → HasResult setting goal g n s rep a st here m → Next setting goal g n s rep' a t
unfolding resume
result_next {st} {m} {s} {rep'} {a} {setting} {g} D T =
    let G = T.gave in
    rw D.state (record {
      ahead = record {
        y = T.y;
        u = T.u;
        w = T.w ++ marked T.y T.o T.w';
        p = T.p + T.p';
        comes = T.comes;
        within = G.within;
        standing = record {
          rank = G.rank;
          kept = G.kept;
          c = G.c;
          e = G.e;
          stands = G.stands;
          fits = G.fits;
          few = G.few;
          pairs = omega (arith, G.pairs, T.pairs);
          brief = omega (arith, T.brief, length-append T.w (marked T.y T.o T.w'), marked_short T.y T.o T.w' T.p' G.short);
          room = G.room;
          based = T.based;
          report = goes_on T.y G T.brief T.near T.mark T.was D.on;
          outside = outside_held (length setting.table) T.y s a st m _ rep'.at G.rank g.lo G.c G.e g.hi G.outside;
        };
      };
    })
