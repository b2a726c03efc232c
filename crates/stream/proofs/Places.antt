-- Pieces at a place of the bytes: a byte, an offset, and a size of any width, which is a flag and a number.
-- Assumes nothing.
use Prim.Native.Nat.{ℕ, zero, suc, ◌+◌, ◌*◌, ◌-◌, ◌≤◌, ◌<◌}
use mathlib.Core.Path.{◌≡◌, refl}
use mathlib.Core.List.{List, [], ◌∷◌}
use native.Mathlib.Omega.{arith}
use native.Mathlib.Numerals.{add-one}
use lib.ListN.{length, get_or, drop}
use lib.Seq.{drop-cons}
use Rattle.definitions.specs.Stream.{broken, read, number, size_from, read_size}
use Rattle.definitions.proofs.Choice.{either}
use Rattle.definitions.proofs.Reading.{Reads, stops, gives, reads_then}
use Rattle.numbers.specs.Words.{number_at, word}
use Rattle.numbers.proofs.Numbers.{number_at_lem, number_short}

pub number_takes : (w : ℕ) (bs : List ℕ) → Reads (λ n rest. length bs ≡ w + length rest) (number w bs)
number_takes zero bs = gives 0 bs (omega arith)
number_takes (suc w) [] = stops
number_takes (suc w) (b ∷ bs) = reads_then (number_takes w bs) λ n rest h. gives (b + 256 * n) rest (omega arith)

pub byte_at : (s : List ℕ) (at : ℕ) → at < length s → drop at s ≡ get_or s at 0 ∷ drop (at + 1) s
byte_at s at h = rw (add-one at) (drop-cons s at 0 h)

pub offset_at : (s : List ℕ) (at : ℕ) {o : ℕ} → at + 4 ≤ length s → o ≡ word s at → number 4 (drop at s) ≡ read o (drop (at + 4) s)
offset_at s at long is = rw is (number_at_lem 4 s at (at + 4) refl long)

pub size_short : (w : ℕ) (bs : List ℕ) → length bs < w → read_size w bs ≡ broken
size_short zero bs h = refl
size_short (suc w) [] h = refl
size_short (suc w) (flag ∷ bs) h = rw (number_short w bs (omega arith))

pub size_at_lem : (w : ℕ) (s : List ℕ) (at : ℕ) → (w ≡ 0 → ⊥) → at + w ≤ length s
    → read_size w (drop at s) ≡ size_from (get_or s at 0) (number_at (w - 1) s (at + 1)) (drop (at + w) s)
size_at_lem zero s at some h = absurd (some refl)
size_at_lem (suc w) s at some h =
    let number : suc w - 1 ≡ w = omega arith in
    rw (number, byte_at s at (omega arith), number_at_lem w s (at + 1) (at + suc w) (omega arith) h)

-- whatever size is read, what follows it begins at the same place
pub size_end : (w : ℕ) (s : List ℕ) (at : ℕ) → at + w ≤ length s → Reads (λ z rest. rest ≡ drop (at + w) s) (read_size w (drop at s))
size_end zero s at h = stops
size_end (suc w) s at h =
    rw (size_at_lem (suc w) s at (λ e. omega arith) h)
    (either (Reads _) _ (gives _ _ refl) (either (Reads _) _ (either (Reads _) _ (gives _ _ refl) stops) stops))
