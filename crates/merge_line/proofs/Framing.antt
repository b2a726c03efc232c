-- The block that a text begins with, and an input that is three of them.
-- Assumes nothing.
use Rattle.std.proofs.Common.{◌≡◌, ℕ, ◌<◌, ◌≤◌, List, [], ◌∷◌, length, drop, refl, sym, ◌∙◌, arith, le-ltb, lt-ltb}
use Rattle.std.specs.Prelude.{Option as Maybe, None, Some, MatchOption}
use Rattle.std.specs.Borrow.{Bor}
use Rattle.std.specs.List.{IsSplitAt}
use mathlib.Core.Bool.{Bool, true, false}
use mathlib.Core.Option.{none as nothing, some}
use lib.Dec.{ltb, eqb}
use borrow.Author.Tests.{eqb-true, eqb-false}
use Rattle.definitions.specs.If.{when◌then◌else◌}
use Rattle.definitions.specs.Stream.{broken, read, whole}
use Rattle.definitions.proofs.Choice.{either}
use Rattle.numbers.specs.Words.{word}
use Rattle.numbers.proofs.Numbers.{number_at_lem}
use Rattle.merge_line.specs.Frame.{Blocks, input_limit, read_blocks, blocks_of}
use Rattle.merge_line.specs.Parts.{FirstOf}

pub block_split : (s rest : List ℕ) (n : ℕ) (r : Maybe (Bor (List ℕ) × Bor (List ℕ))) → n ≡ word s 0 → 4 ≤ length s → rest ≡ drop 4 s
    → MatchOption r (length rest < n) (λ p. IsSplitAt rest n p.0.now p.1.now) → FirstOf s r
unfolding when◌then◌else◌
block_split s rest n None e h behind short = rw (number_at_lem 4 s 0 4 refl h, ← e, ← behind, lt-ltb (length rest) n short) refl
block_split s rest n (Some p) e h behind split =
    rw (number_at_lem 4 s 0 4 refl h, ← e, ← behind, le-ltb (length rest) n split.0, split.1, split.2) refl

-- the three blocks of an input

module _ (s : List ℕ) where
  unread : whole (read_blocks s) ≡ nothing → blocks_of s ≡ nothing
  unfolding blocks_of
  unread e = either (λ o. o ≡ nothing) (ltb input_limit (length s)) refl e

  pub too_long : input_limit < length s → blocks_of s ≡ nothing
  unfolding blocks_of when◌then◌else◌
  too_long h = rw (lt-ltb input_limit (length s) h) refl

  pub not_blocks : read_blocks s ≡ broken → blocks_of s ≡ nothing
  not_blocks e = unread (rw e refl)

  module _ (b : Blocks) (rest : List ℕ) (e : read_blocks s ≡ read b rest) (empty : Bool) (f : empty ≡ eqb (length rest) 0) where
    pub left_over : empty ≡ false → blocks_of s ≡ nothing
    left_over h = unread (rw e (more rest (eqb-false (length rest) 0 (sym f ∙ h))))
      where
        more : (xs : List ℕ) → (length xs ≡ 0 → ⊥) → whole (read b xs) ≡ nothing
        more [] left = absurd (left refl)
        more (x ∷ xs) left = refl

    pub framed : length s ≤ input_limit → empty ≡ true → blocks_of s ≡ some b
    unfolding blocks_of when◌then◌else◌
    framed few h = rw (le-ltb input_limit (length s) few, e) (none rest (eqb-true (length rest) 0 (sym f ∙ h)))
      where
        none : (xs : List ℕ) → length xs ≡ 0 → whole (read b xs) ≡ some b
        none [] h = refl
        none (x ∷ xs) h = absurd (omega arith)
