-- The line of a merge: what the call gives back is what the definition has, and its pieces stand behind one another.
-- Assumes nothing.
use Rattle.std.proofs.Common.{◌≡◌, ℕ, ◌≤◌, List, [], ◌∷◌, ◌++◌, length, take, ◌∙◌, append_assoc, arith}
use Rattle.std.specs.Prelude.{Result as Returned}
use mathlib.Core.Option.{none as nothing, some}
use Rattle.definitions.specs.Limits.{work_limit}
use Rattle.definitions.specs.Requests.Choices.{rust}
use Rattle.qptr.specs.Choices.{choices_in}
use Rattle.qptr.specs.declared.choices.TheConstants.Choices.{RUST}
use Rattle.qptr.proofs.Chosen.{rust_is}
use Rattle.definitions.specs.Calls.{Answer as Told, Written, merge_call}
use Rattle.call_answers.specs.Answers.{answer_of, told_of}
use Rattle.call_answers.specs.Writing.{Gives}
use Rattle.call_answers.specs.declared.Answer.{Answer}
use Rattle.call_answers.specs.declared.Refusal.{Refusal}
use Rattle.call_answers.specs.declared.Written.{Written as Lengths}
use Rattle.merge_line.specs.declared.Writer.{Writer}
use Rattle.merge_line.specs.Put.{Put}
use Rattle.merge_line.specs.Frame.{blocks_of, digits, hex, buffer_length, zeros, answer_line, line_for, line_of, Blocks}
use Rattle.merge_line.specs.Answered.{written}
use Rattle.merge_line.proofs.Putting.{put_after}
use Rattle.merge_line.proofs.Lengths.{Held, merge_held, zeros_length}

-- four pieces, each with a byte behind it
module _ {w w₁ w₂ w₃ w₄ : Writer} where
  pieces : (xs ys zs us : List ℕ) (x y z u : ℕ) → Put w (xs ++ x ∷ []) w₁ → Put w₁ (ys ++ y ∷ []) w₂ → Put w₂ (zs ++ z ∷ []) w₃ → Put w₃ (us ++ u ∷ []) w₄
      → Put w (xs ++ x ∷ ys ++ y ∷ zs ++ z ∷ us ++ u ∷ []) w₄
  pieces xs ys zs us x y z u A B C D = simp append_assoc (simp append_assoc at (put_after A (put_after B (put_after C D))))

  pub answer_put : (a : Answer) (output report : List ℕ) → Put w (digits a.number ++ 0x20 ∷ []) w₁ → Put w₁ (digits a.pairings ++ 0x20 ∷ []) w₂
      → Put w₂ (hex (take a.usage output) ++ 0x20 ∷ []) w₃ → Put w₃ (hex (take a.report report) ++ 0x0A ∷ []) w₄ → Put w (answer_line (written a output report)) w₄
  answer_put a output report = pieces (digits a.number) (digits a.pairings) (hex (take a.usage output)) (hex (take a.report report)) 0x20 0x20 0x20 0x0A

same_written : {x x' : Told} {o o' r r' : List ℕ} → x ≡ x' → o ≡ o' → r ≡ r'
    → ◌≡◌ {A = Written} (record { answer = x; output = o; report = r }) (record { answer = x'; output = o'; report = r' })
same_written e f g = cc

given : {w : Written} {r : Returned Lengths Refusal} {a : Answer} {output report : List ℕ} → answer_of a ≡ told_of r → Gives w r output report → written a output report ≡ w
given e g = same_written (e ∙ g.numbers) g.usage g.reported

-- a merge with the program's buffers
pub record Merged (table first second : List ℕ) (a : Answer) (output report : List ℕ) : Type 0 where
  pub is : written a output report ≡ merge_call rust table work_limit first second (zeros buffer_length) buffer_length
  pub usage_fits : a.usage ≤ length output
  pub report_fits : a.report ≤ length report

pub merge_given : (table first second work output report : List ℕ) {r : Returned Lengths Refusal} {a : Answer} {output' report' : List ℕ} → answer_of a ≡ told_of r → length work ≡ work_limit
    → output ≡ zeros buffer_length → report ≡ zeros buffer_length → Gives (merge_call (choices_in RUST) table (length work) first second output (length report)) r output' report'
    → Merged table first second a output' report'
merge_given table first second work output report {r} {a} {output'} {report'} e work-length output-zeros report-zeros g =
    let report_length : length report ≡ buffer_length = rw report-zeros (zeros_length buffer_length) in
    let held : Held (length output) (length report) (written a output' report') = rw (given e g) (merge_held (choices_in RUST) table (length work) first second output (length report)) in
    record {
      is = given e g ∙ rw (rust_is, report_length, work-length, output-zeros);
      usage_fits = omega arith;
      report_fits = omega arith;
    }

-- The line of an input

pub not_framed : (input : List ℕ) {w w' : Writer} → blocks_of input ≡ nothing → Put w (line_for nothing) w' → Put w (line_of input) w'
unfolding line_of
not_framed input e P = rw e P

pub is_framed : (input : List ℕ) (b : Blocks) {w w' : Writer} → blocks_of input ≡ some b → Put w (line_for (some b)) w' → Put w (line_of input) w'
unfolding line_of
is_framed input b e P = rw e P
