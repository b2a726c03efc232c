-- An Opaque and another top: whether they conflict.
-- Assumes nothing.
use Rattle.std.specs.Prelude.{ℕ, ◌≡◌, Bool, List}
use Rattle.std.proofs.Math.Option.{some}
use Rattle.definitions.specs.Usage.{Top, opaque}
use Rattle.definitions.specs.Stream.{top_of}
use Rattle.definitions.specs.Table.{Setting}
use Rattle.definitions.specs.Place.{done, merge}
use Rattle.call_answers.specs.Writing.{unlike_report}

-- the first stream is an Opaque, and the second some top
pub record OpaqueFirst (first second : List ℕ) : Type 0 where
  pub type : ℕ
  pub other : Top
  pub first_is : top_of first ≡ some (opaque type)
  pub second_is : top_of second ≡ some other

-- r says whether they conflict
pub record Conflicts (first second : List ℕ) (r : Bool) : Type 0 where
  pub of : (st : Setting) (t : ℕ) (b : Top) → top_of first ≡ some (opaque t) → top_of second ≡ some b
      → merge st (opaque t) b ≡ done (opaque t) (unlike_report r) 0
