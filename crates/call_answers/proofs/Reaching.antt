-- What a placing on records has left is what the definition gives: few nodes make few pairings and a short report, so that no number
-- wraps.
-- Assumes nothing.
use Prim.Native.Nat.{ℕ, ◌*◌, ◌≤◌}
use mathlib.Core.Path.{◌≡◌, refl}
use mathlib.Core.List.{List}
use native.Mathlib.Omega.{arith}
use native.Mathlib.Nat.{mul-le-mul}
use Rattle.std.specs.Prelude.{Result as Returned, Ok, Err}
use Rattle.definitions.specs.Limits.{node_limit}
use Rattle.definitions.specs.Usage.{Usage, nodes}
use Rattle.definitions.specs.Place.{Result, refused, done}
use Rattle.definitions.proofs.FewPairings.{Few}
use Rattle.report.specs.declared.Report.{Report}
use Rattle.report.proofs.Emitting.{emitted_all}
use Rattle.place_states.specs.Calls.{Ground, Done, Answered}
use Rattle.place_states.specs.declared.SizeRefusal.{SizeRefusal}
use Rattle.place_states.specs.declared.Merged.{Merged}
use Rattle.call_answers.specs.Writing.{Reached, Stood}

-- what is answered is made of at most m nodes
abbrev pub FewIn : ℕ → Result Usage → Type 0
FewIn m x = (u : Usage) (w : List ℕ) (p : ℕ) → x ≡ done u w p → Few m (nodes u) w p

module _ (m : ℕ) (few : m ≤ node_limit) (g : Ground) (start : g.report.at ≡ 0) (work : List ℕ) (rep : Report) where
  stood : (r : Merged) {u : Usage} {w : List ℕ} {p : ℕ} → Few m (nodes u) w p → Answered u w p g work r rep → Stood u w p work r rep
  stood r {u} {w} {p} small A =
      let square : m * m ≤ 512 * 512 = mul-le-mul few few in
      let all = emitted_all start A.report (omega (arith, small.short_report)) in
      record {
        rank = A.rank;
        lo = g.lo;
        hi = g.hi;
        stands = A.stands;
        small = omega (arith, small.few_nodes);
        pairs = omega (arith, small.few_pairings, A.pairs);
        length_is = all.0;
        bytes = λ room. all.1 (omega (arith, A.report.size));
      }

  pub reached : (r : Returned Merged SizeRefusal) (x : Result Usage) → FewIn m x → Done x g work r rep → Reached x work r rep
  reached (Ok r) (refused k) small D = D
  reached (Ok r) (done u w p) small D = stood r (small u w p refl) D
  reached (Err e) (refused k) small D = D.0
  reached (Err e) (done u w p) small D = D
