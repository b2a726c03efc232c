-- Whatever was reached is given back: the usage that stands, as it is written, with its report and pairings.
-- Assumes nothing.
use Prim.Native.Nat.{ℕ, ◌+◌, ◌*◌, ◌-◌, ◌<◌, ◌≤◌}
use mathlib.Core.Path.{◌≡◌, ap, ◌∙◌}
use mathlib.Core.List.{List, ◌∷◌, ◌++◌}
use native.Mathlib.Nat.{zero-add}
use native.Mathlib.Omega.{arith}
use lib.ListN.{length, set, take, drop, replicate, length-set}
use lib.Seq.{sets, sets-eq}
use Rattle.definitions.specs.Usage.{Usage}
use Rattle.definitions.specs.Stream.{write_node}
use Rattle.definitions.specs.Place.{Result, refused, done, under}
use Rattle.std.specs.Prelude.{Result as Returned, Ok, Err, OnOk, OnErr}
use Rattle.definitions.specs.Calls.{written}
use Rattle.place_states.specs.declared.Merged.{Merged}
use Rattle.place_states.specs.declared.SizeRefusal.{SizeRefusal}
use Rattle.report.specs.Emitted.{SameBuffer}
use Rattle.report.specs.declared.Report.{Report}
use Rattle.report.proofs.Emitting.{kept_nothing, kept_both}
use Rattle.record_links.proofs.Stands.{stands_root}
use Rattle.stream_write.specs.Writing.{Readable, Fitting, LengthIs, UsagePut}
use Rattle.call_answers.specs.Writing.{Gives, Comes, Stood, Reached, Reachable, Finished}
use Rattle.call_answers.specs.declared.Refusal.{Refusal}
use Rattle.call_answers.specs.declared.Refusal.TheVariants.{ShortOutput, ShortReport}
use Rattle.call_answers.specs.declared.Written.{Written}
use Rattle.stream_write.proofs.Lengths.{written_bytes}
use Rattle.call_answers.proofs.Giving.{comes_10, comes_11, comes_written, gives_cleared}

-- The usage that stands

pub standing : {work : List ℕ} {r : Returned Merged SizeRefusal} {m : Merged} {report : Report} → r ≡ Ok m → Reachable work r report → Readable work m.node
standing {work} {m = m} {report} is R = go R.result (rw is at R.reached)
  where
    go : (x : Result Usage) → Reached x work (Ok m) report → Readable work m.node
    go (refused k) reached = absurd reached
    go (done u w p) S = record {
      usage = u;
      rank = S.rank;
      lo = S.lo;
      hi = S.hi;
      stands = S.stands;
      inside = (stands_root u work m.node S.rank S.lo S.hi S.stands).inside;
      small = S.small;
    }

module _ {work : List ℕ} {q l : ℕ} (P : Readable work q) (long : LengthIs work q l) where
  is_length : l ≡ length (write_node P.usage)
  is_length = long.of P.usage P.rank P.lo P.hi P.stands

  pub length_small : l ≤ 14 * 65536
  length_small = omega (arith, is_length, written_bytes P.usage, P.small)

  pub fitting : (command : ℕ) (output : List ℕ) → 1 + l ≤ length output → Fitting work q (set output 0 command) 1
  fitting command output room = record { standing = P; room = omega (arith, is_length, length-set output 0 command) }

-- what comes to its start stands before the rest
first_put : (bs output : List ℕ) → length bs ≤ length output → sets output 0 bs ≡ bs ++ drop (length bs) output
first_put bs output room = sets-eq bs output 0 (omega arith) ∙ ap (λ k. bs ++ drop k output) (zero-add (length bs))

-- What is given back

length_of : {work : List ℕ} {m : Merged} {l : ℕ} → LengthIs work m.node l → {u : Usage} {w : List ℕ} {p : ℕ} {report : Report} (command : ℕ) → Stood u w p work m report → 1 + l ≡ length (command ∷ write_node u)
length_of long {u} command S = omega (arith, long.of u S.rank S.lo S.hi S.stands)

module _ {command : ℕ} {m : Merged} {work output : List ℕ} {report : Report} where
  finished_by : (r : Returned Written Refusal) {output' : List ℕ} {report' : Report} → SameBuffer report report'
      → ((u : Usage) (w : List ℕ) (p : ℕ) → Stood u w p work m report
      → Comes (written output (length report.buffer.now) (done (command ∷ write_node u) w p)) r output' report'.buffer.now)
      → Finished Comes command (Ok m) work output report r output' report'
  finished_by r {output'} {report'} same of = record { of = go; kept = same }
    where
      go : (x : Result Usage) → Reached x work (Ok m) report
          → Comes (written output (length report.buffer.now) (under (λ u. command ∷ write_node u) x)) r output' report'.buffer.now
      go (refused k) reached = absurd reached
      go (done u w p) S = of u w p S

  module _ {l : ℕ} (long : LengthIs work m.node l) where
    pub finished_10 : length output < 1 + l → Finished Comes command (Ok m) work output report (Err ShortOutput) output report
    finished_10 short = finished_by (Err ShortOutput) (kept_nothing report) λ u w p S.
        comes_10 output (length report.buffer.now) (command ∷ write_node u) w p (omega (arith, length_of long command S))

    module _ (room : 1 + l ≤ length output) where
      pub finished_11 : length report.buffer.now < report.at → Finished Comes command (Ok m) work output report (Err ShortReport) output report
      finished_11 short = finished_by (Err ShortReport) (kept_nothing report) λ u w p S.
          comes_11 output (length report.buffer.now) (command ∷ write_node u) w p (omega (arith, length_of long command S)) (omega (arith, S.length_is))

      pub finished_written : {output' : List ℕ} {report' : Report} {e : ℕ} → report.at ≤ length report.buffer.now
          → UsagePut work m.node (set output 0 command) 1 output' e
          → report'.buffer.now ≡ take report.at report.buffer.now ++ replicate (length report.buffer.now - report.at) 0
          → SameBuffer report report'
          → Finished Comes command (Ok m) work output report (Ok (record { usage = 1 + l; report = report.at; pairings = m.pairings })) output' report'
      finished_written enough put zeroed same =
          finished_by _ same λ u w p S.
          comes_written output (length report.buffer.now) (command ∷ write_node u) w p (omega (arith, length_of long command S)) (omega (arith, S.length_is))
          (record { usage = 1 + l; report = report.at; pairings = m.pairings }) (length_of long command S) S.length_is S.pairs
          ((put.of u S.rank S.lo S.hi S.stands).stored ∙ first_put (command ∷ write_node u) output (omega (arith, length_of long command S)))
          (zeroed ∙ rw (S.length_is, S.bytes (omega (arith, S.length_is))))

-- The report of a refused call is cleared

pub finished_cleared : {command : ℕ} {m : Returned Merged SizeRefusal} {work output : List ℕ} {report report₁ report' : Report} (r : Returned Written Refusal) {r' : Returned Written Refusal} {output' : List ℕ}
    → Finished Comes command m work output report r output' report₁ → SameBuffer report₁ report' → r' ≡ r
    → OnOk r (report'.buffer.now ≡ report₁.buffer.now) → OnErr r (report'.buffer.now ≡ replicate (length report₁.buffer.now) 0)
    → Finished Gives command m work output report r' output' report'
finished_cleared {command} {output = output} {report = report} r comes kept same answered zeroed = record {
  of = λ x reached.
      gives_cleared output (length report.buffer.now) (under (λ u. command ∷ write_node u) x) r (comes.of x reached) comes.kept.size same answered zeroed;
  kept = kept_both comes.kept kept;
}
