-- Bytes appended to a report at a position that counts on past the buffer's end, where they are dropped.
-- Assumes nothing.
use Rattle.std.specs.Prelude.{◌≡◌, ℕ, ◌+◌, ◌%◌, ◌^◌, ◌<◌, ◌≢◌, List, length, slice_index}
use Rattle.report.specs.declared.Report.{Report}

-- r' is in the buffer that was lent for r
pub record SameBuffer (r r' : Report) : Type 0 where
  pub size : length r'.buffer.now ≡ length r.buffer.now
  pub name : r'.buffer.ghost_name ≡ r.buffer.ghost_name

-- bs stands from r's position on as far as the buffer goes, and what stood before it still does. Positions wrap at 64 bits; as long
-- as none does, this is all that is to be said, and a report is never that long. It is the same buffer.
pub record Emitted (r : Report) (bs : List ℕ) (r' : Report) : Type 0 where
  pub place : r'.at ≡ (r.at + length bs) % 2 ^ 64
  pub size : length r'.buffer.now ≡ length r.buffer.now
  pub before : r.at + length bs < 2 ^ 64 → (i : ℕ) → i < r.at → slice_index r'.buffer.now i ≡ slice_index r.buffer.now i
  pub bytes : r.at + length bs < 2 ^ 64 → (i : ℕ) → i < length bs → r.at + i < length r.buffer.now → slice_index r'.buffer.now (r.at + i) ≡ slice_index bs i
  pub same_buffer : r'.buffer.ghost_name ≡ r.buffer.ghost_name

-- back at `to` where nothing was reported behind `behind`
pub record TakenBack (behind to : ℕ) (r r' : Report) : Type 0 where
  pub empty : r.at ≡ behind → r' ≡ record r { at = to }
  pub other : (r.at ≢ behind) → r' ≡ r
