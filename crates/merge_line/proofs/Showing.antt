-- A writer's bytes, one behind another.
-- Assumes nothing.
use Rattle.std.proofs.Common.{◌≡◌, ℕ, ◌+◌, ◌/◌, ◌%◌, ◌^◌, ◌<◌, ◌≤◌, List, [], ◌∷◌, ◌++◌, length, get_or, take, refl, add-one, arith, take-suc}
use native.Mathlib.Decide.{dec_lt, ℕ_discrete}
use Rattle.std.proofs.Common.{suc, zero, lt-ltb, le-ltb}
use Rattle.std.specs.Fmt.{decimal}
use Rattle.std.proofs.lemmas.Fmt.{decimal_digit, decimal_step}
use Rattle.definitions.specs.If.{when◌then◌else◌}
use Rattle.merge_line.specs.Frame.{digits_in, digits, hex_digit, hex_digits}
use Rattle.merge_line.specs.declared.Writer.{Writer}
use Rattle.merge_line.specs.Put.{Put}
use Rattle.merge_line.proofs.Putting.{put_after}

pub put_one_more : (w w₁ w₂ : Writer) (s : List ℕ) (i b : ℕ) → Put w (take i s) w₁ → i < length s → b ≡ get_or s i 0 → Put w₁ (b ∷ []) w₂ → Put w (take (i + 1) s) w₂
put_one_more w w₁ w₂ s i b A h e B = rw (add-one i, take-suc s i 0 h, ← e) (put_after A B)

hex_append : (xs ys : List ℕ) → hex_digits (xs ++ ys) ≡ hex_digits xs ++ hex_digits ys
hex_append [] ys = refl
hex_append (x ∷ xs) ys = rw (hex_append xs ys)

pub put_digits_more : (w w₁ w₂ w₃ : Writer) (s : List ℕ) (i b x y : ℕ) → Put w (hex_digits (take i s)) w₁ → i < length s → b ≡ get_or s i 0
    → x ≡ hex_digit (b / 16) → Put w₁ (x ∷ []) w₂ → y ≡ hex_digit (b % 16) → Put w₂ (y ∷ []) w₃ → Put w (hex_digits (take (i + 1) s)) w₃
put_digits_more w w₁ w₂ w₃ s i b x y A h e ex X ey Y =
    rw (add-one i, take-suc s i 0 h, hex_append, ← e, ← ex, ← ey) (put_after A (put_after X Y))

-- the library's digits of a number are the definitions', as long as there are no more than `most`
decimal_digits : (most n : ℕ) → 1 ≤ most → n < 10 ^ most → n < 2 ^ 64 → decimal n ≡ digits_in most n
unfolding when◌then◌else◌
decimal_digits zero n some few small = absurd (omega arith)
decimal_digits (suc most) n some few small = elim (dec_lt n 10) [
  | yes low ↦ rw (lt-ltb n 10 low) (decimal_digit n low)
  | no high ↦
      let more : 1 ≤ most = elim (ℕ_discrete most 0) [
        | yes none ↦ let tens : n < 10 ^ suc 0 = rw none at few in absurd (omega arith)
        | no ne ↦ omega arith
      ] in
      let tenth : n / 10 < 10 ^ most = omega arith in
      rw (le-ltb n 10 (omega arith), ← decimal_digits most (n / 10) more tenth (omega arith)) (decimal_step n (omega arith) small)
]

pub put_number : (w w₁ w₂ : Writer) (n : ℕ) (text : List ℕ) → text ≡ decimal n → n < 2 ^ 32 → Put w text w₁ → Put w₁ (0x20 ∷ []) w₂ → Put w (digits n ++ 0x20 ∷ []) w₂
put_number w w₁ w₂ n text e small A B = rw (← decimal_digits 10 n (omega arith) (omega arith) (omega arith), ← e) (put_after A B)

pub low_digit : (n : ℕ) → n < 10 → 0x30 + n ≡ hex_digit n
unfolding when◌then◌else◌
low_digit n h = rw (lt-ltb n 10 h)

pub high_digit : (n : ℕ) → 10 ≤ n → 0x57 + n ≡ hex_digit n
unfolding when◌then◌else◌
high_digit n h = rw (le-ltb n 10 h)
