-- The answers of calls as the numbers that a caller in C or Rust is given.
-- Assumes nothing.
use Rattle.std.specs.Prelude.{ℕ, ◌≡◌, Bool, true, false, List, [], ◌∷◌}
use Rattle.std.proofs.Math.Option.{Option, none as nothing, some}
use Rattle.definitions.specs.Calls.{Answer, Written}
use Rattle.call_answers.specs.Answers.{bit}
use Rattle.calls.specs.Promised.{Promised}

-- nobody receives, the first stream or the second
abbrev pub number_of : Option Bool → ℕ
number_of nothing = 0
number_of (some true) = 1
number_of (some false) = 2

-- number, yes or no, usage length, report length, pairings
abbrev pub numbers_of : Answer → List ℕ
numbers_of a = a.number ∷ bit a.yes ∷ a.usage ∷ a.report ∷ a.pairings ∷ []

-- what place, merge and fold leave: the numbers, and both buffers
pub record ReturnsNumbers (w : Written) (answer output report : List ℕ) : Type 0 where
  pub numbers : answer ≡ numbers_of w.answer
  pub usage : output ≡ w.output
  pub reported : report ≡ w.report

-- the numbers are those of an answer that keeps what is promised of folding sound nodes
pub record ReturnsPromised (table list answer output : List ℕ) : Type 0 where
  pub told : Answer
  pub numbers : answer ≡ numbers_of told
  pub promised : Promised table list told output
