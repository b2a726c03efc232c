-- The work area that a call is lent: reading the streams keeps its length, and of its bytes those that are asked for are lent on. Each
-- is a law over plain variables, so that a proof that cites it does not go through all that is known there.
-- Assumes nothing.
use Prim.Native.Nat.{ℕ, ◌≤◌}
use mathlib.Core.Path.{◌≡◌, ◌∙◌}
use mathlib.Core.List.{List}
use native.Mathlib.Omega.{arith}
use lib.ListN.{length, take}
use lib.Seq.{length-take-le}
use Rattle.definitions.specs.Limits.{work_limit}
use Rattle.std.specs.Prelude.{Option, Result as Returned}
use Rattle.stream.specs.declared.Found.{Found}
use Rattle.call_answers.specs.declared.Refusal.{Refusal}
use Rattle.call_inputs.specs.Inputs.{Met}
use Rattle.call_inputs.specs.declared.Nodes.{Nodes}

-- there are as many bytes as are asked for, and so many are lent on
module _ {k : ℕ} (asked : k ≡ work_limit) (work : List ℕ) {n : ℕ} (same : length work ≡ n) (enough : work_limit ≤ n) where
  pub area_within : k ≤ length work
  area_within = omega arith

  pub area_lent : length (take k work) ≡ work_limit
  area_lent = length-take-le k work area_within ∙ asked

-- what acceptance tells, in the words of the streams and of the area as it was lent
pub met_lent : {table starts : List ℕ} {w work : ℕ} {x y a b : Option Found} {r : Returned Nodes Refusal} → x ≡ a → y ≡ b → w ≡ work → Met table w x y starts r → Met table work a b starts r
met_lent e f g met = rw (e, f, g) at met
