-- The choices that a call is made with (document 02, P2 and P3). One definition asks for each.
use Rattle.std.specs.Prelude.{ℕ, ◌/◌, ◌%◌, Bool, eqb}

pub record Choices : Type 0 where
  -- on a full tie the first receives, and not the second (`first_receives`)
  pub ties_to_first : Bool
  -- at its length an array contains nothing, and not an element of size 0 (`at_length`)
  pub strict_lookup : Bool

-- As one number: 1 for ties to the first and 2 for the strict lookup, added. Bits that no choice has are not looked at.
abbrev pub choices_of : ℕ → Choices
choices_of k = record { ties_to_first = eqb (k % 2) 1; strict_lookup = eqb (k / 2 % 2) 1 }

-- what the Rust does
abbrev pub rust : Choices
rust = choices_of 0
