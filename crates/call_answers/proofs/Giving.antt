-- What is given back of a result: 10 where the output is too short, else 11 where the report is, else the bytes and the report. A
-- refused call keeps the output, and once its report is cleared, that is what the definitions leave.
-- Assumes nothing.
use Prim.Native.Nat.{ℕ, ◌-◌, ◌<◌, ◌≤◌}
use mathlib.Core.Path.{◌≡◌, refl, sym, ◌∙◌, ap}
use mathlib.Core.List.{List, ◌++◌}
use native.Mathlib.Omega.{arith}
use borrow.Author.Tests.{lt-ltb, le-ltb}
use lib.ListN.{length, drop, replicate}
use Rattle.std.specs.Prelude.{Result as Returned, Ok, Err, OnOk, OnErr}
use Rattle.definitions.specs.If.{when◌then◌else◌}
use Rattle.definitions.specs.Place.{Result, refused, done}
use Rattle.definitions.specs.Calls.{Answer as Told, Written as Left, refusal, kept, written}
use Rattle.definitions.proofs.Choice.{decide}
use Rattle.place_states.specs.declared.SizeRefusal.TheVariants.{Outgrown, Past32}
use Rattle.call_answers.specs.Answers.{number_of, told_of}
use Rattle.call_answers.specs.Writing.{Gives, Comes}
use Rattle.call_answers.specs.declared.Refusal.{Refusal}
use Rattle.call_answers.specs.declared.Refusal.TheVariants.{ShortWork, BadTable, BadFirst, BadSecond, UnknownType, NotConcrete, ManyNodes, Size, ShortOutput, ShortReport}
use Rattle.call_answers.specs.declared.Written.{Written}

-- no refusal has the number of what is answered
pub some_number : (e : Refusal) → 1 ≤ number_of e
some_number ShortWork = omega arith
some_number BadTable = omega arith
some_number BadFirst = omega arith
some_number BadSecond = omega arith
some_number UnknownType = omega arith
some_number NotConcrete = omega arith
some_number ManyNodes = omega arith
some_number (Size Outgrown) = omega arith
some_number (Size Past32) = omega arith
some_number ShortOutput = omega arith
some_number ShortReport = omega arith

module _ (output : List ℕ) (n : ℕ) where
  -- a refusal's numbers, and the output as it was
  pub comes_kept : {e : Refusal} {k : ℕ} {report : List ℕ} → number_of e ≡ k → Comes (kept k output n) (Err e) output report
  comes_kept is = record { numbers = ap refusal is; usage = refl; reported = tt }

  -- the same, with a report of zeros
  pub gives_kept : {e : Refusal} {r : Returned Written Refusal} {report : List ℕ} → r ≡ Err e → report ≡ replicate n 0 → Gives (kept (number_of e) output n) r output report
  gives_kept is zeroed = record { numbers = ap told_of is; usage = refl; reported = zeroed }

  module _ (bs w : List ℕ) (p : ℕ) where
    pub comes_10 : {report : List ℕ} → length output < length bs → Comes (written output n (done bs w p)) (Err ShortOutput) output report
    unfolding when◌then◌else◌
    comes_10 short = rw (lt-ltb (length output) (length bs) short) (comes_kept refl)

    pub comes_11 : {report : List ℕ} → length bs ≤ length output → n < length w → Comes (written output n (done bs w p)) (Err ShortReport) output report
    unfolding when◌then◌else◌
    comes_11 room short = rw (le-ltb (length output) (length bs) room, lt-ltb n (length w) short) (comes_kept refl)

    pub comes_written : {output' report : List ℕ} → length bs ≤ length output → length w ≤ n
        → (v : Written) → v.usage ≡ length bs → v.report ≡ length w → v.pairings ≡ p
        → output' ≡ bs ++ drop (length bs) output → report ≡ w ++ replicate (n - length w) 0
        → Comes (written output n (done bs w p)) (Ok v) output' report
    unfolding when◌then◌else◌
    comes_written room room' v usage report pairings put reported =
        rw (le-ltb (length output) (length bs) room, le-ltb n (length w) room')
        (record { numbers = rw (usage, report, pairings); usage = put; reported = reported })

  -- where the definitions refuse, they leave zeros
  zeros_left : (x : Result (List ℕ)) (e : Refusal) → refusal (number_of e) ≡ (written output n x).answer → (written output n x).report ≡ replicate n 0
  zeros_left (refused k) e = λ _. refl
  zeros_left (done bs w p) e = decide Zeros _ (λ _ _. refl) λ _. decide Zeros _ (λ _ _. refl) λ _ is.
      absurd (omega (arith, some_number e, ap (λ (a : Told). a.number) is))
    where
      Zeros : Left → Type 0
      Zeros l = refusal (number_of e) ≡ l.answer → l.report ≡ replicate n 0

  pub gives_cleared : (x : Result (List ℕ)) (r : Returned Written Refusal) {r' : Returned Written Refusal} {output' report report' : List ℕ}
      → Comes (written output n x) r output' report → length report ≡ n → r' ≡ r
      → OnOk r (report' ≡ report) → OnErr r (report' ≡ replicate (length report) 0) → Gives (written output n x) r' output' report'
  gives_cleared x (Ok v) comes long same kept zeroed = record { numbers = ap told_of same ∙ comes.numbers; usage = comes.usage; reported = kept ∙ comes.reported }
  gives_cleared x (Err e) comes long same kept zeroed = record {
    numbers = ap told_of same ∙ comes.numbers;
    usage = comes.usage;
    reported = zeroed ∙ ap (λ k. replicate k 0) long ∙ sym (zeros_left x e comes.numbers);
  }
