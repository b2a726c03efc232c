-- A number written over a part of a list of bytes.
-- Assumes nothing.
use Prim.Native.Nat.{ℕ, ◌+◌, ◌/◌, ◌≤◌}
use mathlib.Core.Path.{◌≡◌, refl, sym, ap, ◌∙◌}
use mathlib.Core.List.{List}
use native.Mathlib.Omega.{arith}
use lib.ListN.{length, take, drop}
use lib.Seq.{sets-eq, drop-drop}
use Rattle.std.proofs.Common.{append_assoc}
use Rattle.std.specs.Int.{to_le_bytes, w32}
use borrow.Rule.Slice.PartMut.{put_mid}
use Rattle.definitions.specs.Stream.{bytes}
use Rattle.definitions.proofs.Numbers.{bytes_length}
use Rattle.numbers.specs.Words.{put_at}

-- the library's bytes of a number are the definitions'
pub le_bytes : (v : ℕ) → to_le_bytes w32 v ≡ bytes 4 v
le_bytes v =
    let third : v / 65536 ≡ v / 256 / 256 = omega arith in
    let fourth : v / 16777216 ≡ v / 256 / 256 / 256 = omega arith in
    rw (third, fourth) refl

pub put_part : (w : ℕ) (s : List ℕ) (i k v : ℕ) → k ≡ w → i + w ≤ length s → put_mid i k s (bytes w v) ≡ put_at w s i v
unfolding put_at
put_part w s i k v e h =
    let ends : i + k ≡ i + length (bytes w v) = omega (arith, bytes_length w v) in
    let rest : drop k (drop i s) ≡ drop (i + length (bytes w v)) s = drop-drop k i s ∙ ap (λ (n : ℕ). drop n s) ends in
    rw rest (sym (sets-eq (bytes w v) s i (omega (arith, bytes_length w v)) ∙ append_assoc (take i s) (bytes w v) (drop (i + length (bytes w v)) s)))
