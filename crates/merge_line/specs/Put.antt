-- Bytes put into the line's buffer, one behind another.
-- Assumes nothing.
use Rattle.std.specs.Prelude.{◌≡◌, ℕ, ◌+◌, ◌^◌, ◌<◌, ◌≤◌, List, length, slice_index}
use Rattle.report.specs.declared.Report.{Report}
use Rattle.report.specs.Emitted.{Emitted}
use Rattle.merge_line.specs.declared.Writer.{Writer}

-- a writer, as what a report is written with
abbrev pub as_report : Writer → Report
as_report w = record { buffer = w.buffer; at = w.at }

-- bs are emitted as a report's bytes are, and what stood behind them still does
pub record Put (w : Writer) (bs : List ℕ) (w' : Writer) : Type 0 where
  pub emitted : Emitted (as_report w) bs (as_report w')
  pub behind : w.at + length bs < 2 ^ 64 → (i : ℕ) → w.at + length bs ≤ i → slice_index w'.buffer.now i ≡ slice_index w.buffer.now i
