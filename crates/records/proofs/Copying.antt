-- A record whose fields' bytes are copied: equal bytes make equal records.
-- Assumes nothing.
use Prim.Native.Nat.{ℕ, ◌+◌, ◌*◌, ◌-◌, ◌<◌, ◌≤◌}
use mathlib.Core.Path.{◌≡◌, ap, ◌∙◌}
use mathlib.Core.List.{List}
use native.Mathlib.Decide.{dec_lt}
use native.Mathlib.Omega.{arith}
use lib.ListN.{get_or}
use Rattle.std.specs.List.{CopiedTo, SameBelow, SameFrom}
use Rattle.numbers.specs.Words.{number_at}
use Rattle.numbers.proofs.Numbers.{number_equal}
use Rattle.records.specs.Records.{cell, Set}
use Rattle.records.proofs.Writing.{cell_is}

-- what the first 24 bytes of two records say
same_cell : (s s' : List ℕ) (q q' : ℕ) → ((k : ℕ) → k < 24 → get_or s' (q' * 32 + k) 0 ≡ get_or s (q * 32 + k) 0) → cell s' q' ≡ cell s q
same_cell s s' q q' h =
    let at : (l : List ℕ) (i j : ℕ) → i ≡ j → get_or l i 0 ≡ get_or l j 0 = λ l i j e. ap (λ (n : ℕ). get_or l n 0) e in
    let field : (w x : ℕ) → x + w ≤ 24 → number_at w s' (q' * 32 + x) ≡ number_at w s (q * 32 + x) = λ w x le. number_equal w s s' (q * 32 + x) (q' * 32 + x) (λ k lt.
    at s' (q' * 32 + x + k) (q' * 32 + (x + k)) (omega arith) ∙ h (x + k) (omega arith) ∙ at s (q * 32 + (x + k)) (q * 32 + x + k) (omega arith)) in
    cell_is s' q' _ _ _ _ _ _ _ _ (number_equal 2 s s' (q * 32) (q' * 32) (λ k lt. h k (omega arith))) (field 2 2 (omega arith)) (field 2 4 (omega arith)) (field 2 6 (omega arith))
    (field 4 8 (omega arith)) (field 4 12 (omega arith)) (field 4 16 (omega arith)) (field 4 20 (omega arith))

pub set_copied : (s s' : List ℕ) (to from n : ℕ) → n ≡ 24 → CopiedTo s s' (from * 32) (to * 32) n → SameBelow s s' (to * 32) → SameFrom s s' (to * 32 + n)
    → Set s s' to (cell s from)
set_copied s s' to from n e moved below above = record {
  here = same_cell s s' from to (λ k lt.
      let place : from * 32 + (to * 32 + k - to * 32) ≡ from * 32 + k = omega arith in
      rw place at (moved (to * 32 + k) 0 (omega arith) (omega arith)));
  others = λ j ne. same_cell s s' j j (λ k lt. elim (dec_lt (j * 32 + k) (to * 32)) [
    | yes v ↦ below (j * 32 + k) 0 v
    | no v ↦ above (j * 32 + k) 0 (omega (arith, ne))
  ]);
}
