-- A call's answer lies within its buffers, and so the line has a longest length.
-- Assumes nothing.
use Rattle.std.proofs.Common.{◌≡◌, ℕ, zero, suc, ◌+◌, ◌*◌, ◌/◌, ◌≤◌, ◌&&◌, ltb, List, [], ◌∷◌, length, take, drop, refl, arith, length-append, length-drop, length-take, get_or-drop, ext_get_or, ltb-false}
use mathlib.Core.Option.{Option, none as nothing, some}
use lib.ListN.{length-replicate}
use Rattle.definitions.specs.Limits.{work_limit}
use Rattle.definitions.specs.Usage.{top_nodes}
use Rattle.definitions.specs.Stream.{write_top, top_of}
use Rattle.definitions.specs.Place.{Result, refused, done, under, merge}
use Rattle.definitions.specs.Requests.Choices.{Choices, rust}
use Rattle.definitions.specs.Calls.{Written, given, with_table, top_types_in, checked, kept, written, merge_call}
use Rattle.definitions.proofs.Choice.{either, decide}
use Rattle.merge_line.specs.declared.Writer.{Writer}
use Rattle.merge_line.specs.Put.{Put}
use Rattle.report.proofs.Emitting.{emitted_all}
use Rattle.merge_line.specs.Frame.{Blocks, blocks_of, digits_in, hex_digits, hex, buffer_length, zeros, answer_line, line_for, line_of, line_limit, Line}

-- the buffers have their lengths still, and what was written lies within them
pub record Held (m n : ℕ) (w : Written) : Type 0 where
  pub usage : w.answer.usage ≤ m
  pub report : w.answer.report ≤ n
  pub output_length : length w.output ≡ m
  pub report_length : length w.report ≡ n

module _ (output : List ℕ) (n : ℕ) where
  kept_held : (k : ℕ) → Held (length output) n (kept k output n)
  kept_held k = record { usage = omega arith; report = omega arith; output_length = refl; report_length = length-replicate n 0 }

  pub written_held : (r : Result (List ℕ)) → Held (length output) n (written output n r)
  written_held (refused k) = kept_held k
  written_held (done bs w p) =
      decide (Held (length output) n) (ltb (length output) (length bs))
      (λ _. kept_held 10)
      (λ fits. decide (Held (length output) n) (ltb n (length w))
      (λ _. kept_held 11)
      (λ fits'.
      let usage : length bs ≤ length output = ltb-false (length output) (length bs) fits in
      let report : length w ≤ n = ltb-false n (length w) fits' in
      record {
        usage = usage;
        report = report;
        output_length = simp (length-append, length-drop) (omega arith);
        report_length = simp (length-append, length-replicate) (omega arith);
      }))

pub merge_held : (ch : Choices) (table : List ℕ) (work : ℕ) (first second output : List ℕ) (n : ℕ) → Held (length output) n (merge_call ch table work first second output n)
unfolding merge_call
merge_held ch table work first second output n =
    written_held output n
    (with_table work table λ t.
    given 3 (top_of first) λ a.
    given 4 (top_of second) λ b.
    checked (top_types_in t a && top_types_in t b) (top_nodes a + top_nodes b)
    (under write_top (merge (record { table = t; choices = ch }) a b)))

pub zeros_length : (n : ℕ) → length (zeros n) ≡ n
unfolding zeros
zeros_length n = length-replicate {A = ℕ} n 0

-- The pieces of a line

digits_short : (most n : ℕ) → length (digits_in most n) ≤ most
digits_short zero n = omega arith
digits_short (suc most) n =
    either (λ ds. length ds ≤ suc most) (ltb n 10) (omega arith)
    (simp length-append (omega (arith, digits_short most (n / 10))))

hex_digits_length : (s : List ℕ) → length (hex_digits s) ≡ 2 * length s
hex_digits_length [] = refl
hex_digits_length (b ∷ bs) = omega (arith, hex_digits_length bs)

hex_short : (s : List ℕ) (k : ℕ) → length s ≤ k → 1 ≤ k → length (hex s) ≤ 2 * k
hex_short [] k h least = omega arith
hex_short (b ∷ bs) k h least = omega (arith, hex_digits_length (b ∷ bs))

answer_short : (w : Written) → Held buffer_length buffer_length w → length (answer_line w) ≤ line_limit
answer_short w held =
    let usage : ℕ = w.answer.usage in
    let report : ℕ = w.answer.report in
    let output-short : length (hex (take usage w.output)) ≤ 2 * buffer_length = hex_short (take usage w.output) buffer_length (simp length-take (omega arith)) (omega arith) in
    let report-short : length (hex (take report w.report)) ≤ 2 * buffer_length = hex_short (take report w.report) buffer_length (simp length-take (omega arith)) (omega arith) in
    simp length-append (omega (arith, digits_short 10 w.answer.number, digits_short 10 w.answer.pairings))

line_for_short : (b : Option Blocks) → length (line_for b) ≤ line_limit
line_for_short nothing = omega arith
line_for_short (some b) =
    answer_short (merge_call rust b.table work_limit b.first b.second (zeros buffer_length) buffer_length)
    (rw (zeros_length buffer_length) at (merge_held rust b.table work_limit b.first b.second (zeros buffer_length) buffer_length))

line_short : (input : List ℕ) → length (line_of input) ≤ line_limit
unfolding line_of
line_short input = line_for_short (blocks_of input)

-- a buffer that holds the longest line
pub line_held : (w w' : Writer) (input final : List ℕ) → Put w (line_of input) w' → w.at ≡ 0 → (w'.buffer.ghost_name ≡ w.buffer.ghost_name → final ≡ w'.buffer.now)
    → line_limit ≤ length w.buffer.now → Line input w.buffer.now final w'.at
line_held w w' input final P start ends room =
    let short : length (line_of input) ≤ line_limit = line_short input in
    let all = emitted_all {w = line_of input} start P.emitted (omega arith) in
    let same : length w'.buffer.now ≡ length w.buffer.now = P.emitted.size in
    rw (ends P.emitted.same_buffer) (record {
      within = omega arith;
      is = rw all.0 (all.1 (omega arith));
      rest =
          ext_get_or 0 (drop w'.at w'.buffer.now) (drop w'.at w.buffer.now) (simp length-drop (omega arith))
          (λ i lt. rw (get_or-drop w'.at w'.buffer.now i 0, get_or-drop w'.at w.buffer.now i 0) (P.behind (omega arith) (w'.at + i) (omega arith)));
    })
