-- What an answer says of its goal.
-- Assumes nothing.
use Rattle.std.proofs.Common.{◌≡◌, ℕ, List, refl}
use Rattle.std.specs.Prelude.{Result as Returned, Ok, Err}
use Rattle.definitions.specs.Usage.{Usage}
use Rattle.definitions.specs.Place.{Result, refused, done}
use Rattle.report.specs.Emitted.{SameBuffer}
use Rattle.report.specs.declared.Report.{Report}
use Rattle.report.proofs.Emitting.{kept_emitted}
use Rattle.place_states.specs.Refusals.{number_of}
use Rattle.place_states.specs.Calls.{Ground, Answered, Done}
use Rattle.place_states.specs.declared.Merged.{Merged}
use Rattle.place_states.specs.declared.SizeRefusal.{SizeRefusal}

-- the goal is a usage, which m names
pub record Reached (goal : Result Usage) (g : Ground) (s : List ℕ) (m : Merged) (rep : Report) : Type 0 where
  pub u : Usage
  pub w : List ℕ
  pub q : ℕ
  pub is : goal ≡ done u w q
  pub answered : Answered u w q g s m rep

pub done_ok : (goal : Result Usage) {g : Ground} {s : List ℕ} {m : Merged} {rep : Report} → Done goal g s (Ok m) rep → Reached goal g s m rep
done_ok (refused k) D = absurd D
done_ok (done u w q) D = record { u = u; w = w; q = q; is = refl; answered = D }

pub done_err : (goal : Result Usage) (g : Ground) (s : List ℕ) (e : SizeRefusal) (rep : Report) → Done goal g s (Err e) rep → goal ≡ refused (number_of e)
done_err (refused k) g s e rep D = rw D.0 refl
done_err (done u w q) g s e rep D = absurd D

pub refused_done : (goal : Result Usage) (g : Ground) (s : List ℕ) (e : SizeRefusal) (rep : Report) → (goal ≡ refused (number_of e)) × SameBuffer g.report rep → Done goal g s (Err e) rep
refused_done goal g s e rep is = rw is.0 (refl, is.1)

-- whatever the answer, the report is in its buffer
pub done_kept : (goal : Result Usage) (g : Ground) (s : List ℕ) (r : Returned Merged SizeRefusal) (rep : Report) → Done goal g s r rep → SameBuffer g.report rep
done_kept (refused k) g s (Err e) rep D = D.1
done_kept (refused k) g s (Ok m) rep D = absurd D
done_kept (done u w q) g s (Err e) rep D = absurd D
done_kept (done u w q) g s (Ok m) rep D = kept_emitted D.report
