-- What place, merge and fold come to before their answer is written, and what they then give back.
-- Assumes nothing.
use Rattle.std.specs.Prelude.{ℕ, ◌<◌, ◌≤◌, ◌≡◌, Bool, true, false, List, [], ◌∷◌, Result as Returned, Ok, Err, OnOk, length, take}
use Rattle.definitions.specs.Usage.{Usage, nodes}
use Rattle.definitions.specs.Stream.{write_node}
use Rattle.definitions.specs.Place.{Result, refused, done, under}
use Rattle.definitions.specs.Calls.{Written as Left, written}
use Rattle.record_links.specs.Standing.{Stands}
use Rattle.report.specs.Emitted.{SameBuffer}
use Rattle.report.specs.declared.Report.{Report}
use Rattle.place_states.specs.Refusals.{number_of}
use Rattle.place_states.specs.declared.SizeRefusal.{SizeRefusal}
use Rattle.place_states.specs.declared.Merged.{Merged}
use Rattle.call_answers.specs.Answers.{told_of}
use Rattle.call_answers.specs.declared.Refusal.{Refusal}
use Rattle.call_answers.specs.declared.Written.{Written}

-- the numbers and both buffers are those of w
pub record Gives (w : Left) (r : Returned Written Refusal) (output report : List ℕ) : Type 0 where
  pub numbers : told_of r ≡ w.answer
  pub usage : output ≡ w.output
  pub reported : report ≡ w.report

-- the same, but that the report of a refused call is still to be cleared
pub record Comes (w : Left) (r : Returned Written Refusal) (output report : List ℕ) : Type 0 where
  pub numbers : told_of r ≡ w.answer
  pub usage : output ≡ w.output
  pub reported : OnOk r (report ≡ w.report)

-- u is the result; its report w is at the buffer's start, if it fits, and there were p pairings
pub record Stood (u : Usage) (w : List ℕ) (p : ℕ) (work : List ℕ) (m : Merged) (report : Report) : Type 0 where
  pub rank : ℕ → ℕ
  pub lo : ℕ
  pub hi : ℕ
  pub stands : Stands u work m.node rank lo hi
  pub small : nodes u < 65536
  pub pairs : m.pairings ≡ p
  pub length_is : report.at ≡ length w
  pub bytes : length w ≤ length report.buffer.now → take (length w) report.buffer.now ≡ w

-- the definition gives x, and this is what there is of it
abbrev pub Reached : Result Usage → List ℕ → Returned Merged SizeRefusal → Report → Type 0
Reached (refused k) work (Err e) report = number_of e ≡ k
Reached (refused k) work (Ok m) report = ⊥
Reached (done u w p) work (Err e) report = ⊥
Reached (done u w p) work (Ok m) report = Stood u w p work m report

pub record Reachable (work : List ℕ) (m : Returned Merged SizeRefusal) (report : Report) : Type 0 where
  pub result : Result Usage
  pub reached : Reached result work m report

-- whatever was reached is given back, the usage behind the byte `command`, in the same buffers; `gives` says how: as Gives, or as Comes
pub record Finished (gives : Left → Returned Written Refusal → List ℕ → List ℕ → Type 0) (command : ℕ) (m : Returned Merged SizeRefusal) (work output : List ℕ) (report : Report) (r : Returned Written Refusal) (output' : List ℕ) (report' : Report) : Type 0 where
  pub of : (x : Result Usage) → Reached x work m report
      → gives (written output (length report.buffer.now) (under (λ u. command ∷ write_node u) x)) r output' report'.buffer.now
  pub kept : SameBuffer report report'

-- the report of two tops of which the first stays: none where they are the same, else conflict 37
abbrev pub unlike_report : Bool → List ℕ
unlike_report false = []
unlike_report true = 0x37 ∷ []
