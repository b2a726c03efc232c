-- What the code reads of a stream is the size that is written there: the flag tells which, and the number stands behind it.
-- Assumes nothing.
use Prim.Native.Nat.{ℕ, zero, suc, ◌+◌, ◌-◌, ◌^◌, ◌<◌, ◌≤◌}
use mathlib.Core.Path.{◌≡◌, refl, ap}
use mathlib.Core.List.{List, [], ◌∷◌, ◌++◌}
use native.Mathlib.Omega.{arith}
use lib.ListN.{get_or, drop}
use Rattle.definitions.specs.Usage.{Size, fixed, dynamic}
use Rattle.definitions.specs.Stream.{bytes, write_size}
use Rattle.records.specs.Records.{size_from}
use Rattle.numbers.specs.Words.{number_at}
use Rattle.numbers.proofs.Numbers.{number_is}
use Rattle.stream_load.specs.Nodes.{size_at}
use Rattle.numbers.proofs.Places.{first_at, past}

pub size_dynamic : (w : ℕ) (s : List ℕ) (i : ℕ) → get_or s i 0 ≡ 0 → dynamic ≡ size_at w s i
unfolding size_at
size_dynamic w s i e = rw e

flagged : (f n : ℕ) → (f ≡ 0 → ⊥) → fixed n ≡ size_from f n
flagged zero n some = absurd (some refl)
flagged (suc f) n some = refl

pub size_fixed : (w : ℕ) (s : List ℕ) (i r : ℕ) → (get_or s i 0 ≡ 0 → ⊥) → r ≡ number_at (w - 1) s (i + 1) → fixed r ≡ size_at w s i
unfolding size_at
size_fixed w s i r some e = rw e (flagged (get_or s i 0) (number_at (w - 1) s (i + 1)) some)

pub size_is : (w : ℕ) (s : List ℕ) (i : ℕ) (y : Size) (rest : List ℕ) → 1 ≤ w
    → ((n : ℕ) → y ≡ fixed n → n < 256 ^ (w - 1)) → drop i s ≡ write_size w y ++ rest → size_at w s i ≡ y
unfolding size_at
size_is zero s i y rest some fits d = absurd (omega arith)
size_is (suc w) s i (fixed n) rest some fits d =
    let e : suc w - 1 ≡ w = omega arith in
    let f : n < 256 ^ w = rw e at (fits n refl) in
    rw (first_at s i (write_size (suc w) (fixed n) ++ rest) d, e) (ap fixed (number_is w s (i + 1) n rest f (past s i (1 ∷ []) (bytes w n ++ rest) d)))
size_is (suc w) s i dynamic rest some fits d = rw (first_at s i (write_size (suc w) dynamic ++ rest) d)
