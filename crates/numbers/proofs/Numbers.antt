-- A number at a place of a list of bytes: as the definitions read and write it, and after a store. Each law goes by induction on
-- the width.
-- Assumes nothing.
use Prim.Native.Nat.{ℕ, zero, suc, ◌+◌, ◌^◌, ◌/◌, ◌%◌, ◌<◌, ◌≤◌}
use mathlib.Core.Path.{◌≡◌, refl, ◌∙◌}
use mathlib.Core.List.{List, [], ◌∷◌, ◌++◌}
use native.Mathlib.Decide.{dec_lt}
use native.Mathlib.Nat.{add-zero}
use native.Mathlib.Omega.{arith}
use lib.ListN.{length, get_or, set, drop, length-drop, length-set}
use lib.Seq.{sets, get_or-set_same, get_or-set_other, drop-cons, length-sets}
use Rattle.definitions.specs.Stream.{Read, broken, read, ◌then◌, number, bytes}
use Rattle.definitions.proofs.Numbers.{bytes_length}
use Rattle.numbers.specs.Words.{number_at, put_at}
use Rattle.numbers.proofs.Places.{first_at, past}

-- Reading

pub number_at_lem : (w : ℕ) (s : List ℕ) (i j : ℕ) → i + w ≡ j → j ≤ length s → number w (drop i s) ≡ read (number_at w s i) (drop j s)
unfolding number_at
number_at_lem zero s i j e h = let z : i ≡ j = omega arith in rw z
number_at_lem (suc w) s i j e h =
    let z : i + 1 ≡ suc i = omega arith in
    rw (drop-cons s i 0 (omega arith), ← z, number_at_lem w s (i + 1) j (omega arith) h)

pub number_short : (w : ℕ) (bs : List ℕ) → length bs < w → number w bs ≡ broken
number_short zero bs h = absurd (omega arith)
number_short (suc w) [] h = refl
number_short (suc w) (b ∷ bs) h = rw (number_short w bs (omega arith))

-- what holds of a broken reading, and of the next step behind a whole number, holds of reading that number and then the next
pub number_then : {B : Type 0} (P : Read B → Type 0) (w : ℕ) (s : List ℕ) (i j : ℕ) (next : ℕ → List ℕ → Read B) → i ≤ length s → P broken
    → i + w ≡ j → (j ≤ length s → P (next (number_at w s i) (drop j s))) → P (number w (drop i s) then next)
number_then P w s i j next l b e f =
    elim (dec_lt (length s) j) [
      | yes v ↦ rw (number_short w (drop i s) (rw length-drop (omega arith))) b
      | no v ↦ rw (number_at_lem w s i j e (omega arith)) (f (omega arith))
    ]

-- a number that is written at i stands there
pub number_is : (w : ℕ) (s : List ℕ) (i v : ℕ) (rest : List ℕ) → v < 256 ^ w → drop i s ≡ bytes w v ++ rest → number_at w s i ≡ v
unfolding number_at
number_is zero s i v rest f d = omega arith
number_is (suc w) s i v rest f d =
    let first : get_or s i 0 ≡ v % 256 = first_at s i (bytes (suc w) v ++ rest) d in
    let others : drop (i + 1) s ≡ bytes w (v / 256) ++ rest = past s i (v % 256 ∷ []) (bytes w (v / 256) ++ rest) d in
    omega (arith, first, number_is w s (i + 1) (v / 256) rest (omega arith) others)

-- equal bytes make equal numbers
pub number_equal : (w : ℕ) (s s' : List ℕ) (i i' : ℕ) → ((k : ℕ) → k < w → get_or s' (i' + k) 0 ≡ get_or s (i + k) 0) → number_at w s' i' ≡ number_at w s i
unfolding number_at
number_equal zero s s' i i' h = refl
number_equal (suc w) s s' i i' h =
    let first : get_or s' i' 0 ≡ get_or s i 0 = simp add-zero at (h 0 (omega arith)) in
    let others : (k : ℕ) → k < w → get_or s' (i' + 1 + k) 0 ≡ get_or s (i + 1 + k) 0 = λ k lt.
    let e : i + 1 + k ≡ i + suc k = omega arith in
    let e' : i' + 1 + k ≡ i' + suc k = omega arith in
    rw (e, e') (h (suc k) (omega arith)) in
    omega (arith, number_equal w s s' (i + 1) (i' + 1) others)

-- Storing

pub length_put : (w : ℕ) (s : List ℕ) (i v : ℕ) → length (put_at w s i v) ≡ length s
unfolding put_at
length_put w s i v = length-sets s i (bytes w v)

byte_sets_other : (vs s : List ℕ) (i j : ℕ) → (i ≤ j → j < i + length vs → ⊥) → get_or (sets s i vs) j 0 ≡ get_or s j 0
byte_sets_other [] s i j h = refl
byte_sets_other (v ∷ vs) s i j h =
    byte_sets_other vs (set s i v) (suc i) j (λ a b. h (omega arith) (omega arith)) ∙ get_or-set_other s i j v 0 (λ e. h (omega arith) (omega arith))

-- a store leaves a number as it was whose bytes it does not meet
pub number_put_other : (w x : ℕ) (s : List ℕ) (i v j : ℕ) → (i < j + x → j < i + w → ⊥) → number_at x (put_at w s i v) j ≡ number_at x s j
unfolding put_at
number_put_other w x s i v j h =
    number_equal x s (sets s i (bytes w v)) j j (λ k lt. byte_sets_other (bytes w v) s i (j + k) (λ a b. h (omega arith) (omega (arith, bytes_length w v))))

pub number_put : (w : ℕ) (s : List ℕ) (i v : ℕ) → i + w ≤ length s → v < 256 ^ w → number_at w (put_at w s i v) i ≡ v
unfolding number_at put_at
number_put zero s i v h f = omega arith
number_put (suc w) s i v h f =
    let l : List ℕ = set s i (v % 256) in
    let z : i + 1 ≡ suc i = omega arith in
    let first : get_or (sets l (suc i) (bytes w (v / 256))) i 0 ≡ v % 256 =
    byte_sets_other (bytes w (v / 256)) l (suc i) i (λ a b. omega arith) ∙ get_or-set_same s i (v % 256) 0 (omega arith) in
    let others : number_at w (sets l (i + 1) (bytes w (v / 256))) (i + 1) ≡ v / 256 =
    number_put w l (i + 1) (v / 256) (omega (arith, length-set s i (v % 256))) (omega arith) in
    rw z (omega (arith, rw z at others))
