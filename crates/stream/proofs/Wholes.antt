-- Nothing may be left over: what is read up to the last byte is found, and what is read before it is not.
-- Assumes nothing.
use Prim.Native.Nat.{ℕ, ◌+◌, ◌≤◌, ◌<◌}
use mathlib.Core.Path.{◌≡◌, refl, sym}
use mathlib.Core.List.{List, [], ◌∷◌}
use mathlib.Core.Option.{none as nothing, some}
use native.Mathlib.Omega.{arith}
use lib.ListN.{length, drop, length-drop}
use lib.Seq.{drop-length}
use Rattle.definitions.specs.Usage.{opaque}
use Rattle.definitions.specs.Command.{argument_width}
use Rattle.definitions.specs.Stream.{Read, broken, read, ◌then◌, whole}
use Rattle.definitions.proofs.Reading.{Reads, stops, gives}
use Rattle.numbers.specs.Words.{number_at}
use Rattle.numbers.proofs.Numbers.{number_at_lem}
use Rattle.stream.specs.Found.{opaque_of, told}
use Rattle.stream.proofs.Places.{number_takes}

pub whole_all : {A : Type 0} (a : A) (s : List ℕ) (end : ℕ) → end ≡ length s → whole (read a (drop end s)) ≡ some a
whole_all a s end e = rw (e, drop-length)

some_left : {A : Type 0} (a : A) (bs : List ℕ) → 0 < length bs → whole (read a bs) ≡ nothing
some_left a [] h = absurd (omega arith)
some_left a (b ∷ bs) h = refl

pub whole_not : {A : Type 0} (a : A) (s : List ℕ) (end : ℕ) → end ≤ length s → (end ≡ length s → ⊥) → whole (read a (drop end s)) ≡ nothing
whole_not a s end le not = some_left a (drop end s) (rw length-drop (omega arith))

-- what is told of a value is told of what is made of it
pub told_made : {A B : Type 0} (f : A → B) (n b : B → ℕ) (r : Read A)
    → told n b (whole (r then λ a rest. read (f a) rest)) ≡ told (λ a. n (f a)) (λ a. b (f a)) (whole r)
told_made f n b broken = refl
told_made f n b (read a []) = refl
told_made f n b (read a (x ∷ bs)) = refl

-- so many bytes and no others
exactly : {A : Type 0} (w : ℕ) (f : ℕ → A) (bs : List ℕ) {r : Read ℕ} → Reads (λ n rest. length bs ≡ w + length rest) r → (length bs ≡ w → ⊥)
    → whole (r then λ n rest. read (f n) rest) ≡ nothing
exactly w f bs stops not = refl
exactly w f bs (gives n rest h) not = some_left (f n) rest (omega arith)

module _ (s : List ℕ) (w : ℕ) (width : w ≡ argument_width 0x08) where
  pub opaque_not : 1 ≤ length s → (length s ≡ 1 + w → ⊥) → opaque_of (drop 1 s) ≡ nothing
  opaque_not head not =
      rw (← width) (exactly w opaque (drop 1 s) (number_takes w (drop 1 s)) (rw length-drop (λ e. not (omega arith))))

  pub opaque_is : (n : ℕ) → length s ≡ 1 + w → n ≡ number_at w s 1 → opaque_of (drop 1 s) ≡ some (opaque n)
  opaque_is n e is = rw (← width, number_at_lem w s 1 (1 + w) refl (omega arith), is) (whole_all (opaque (number_at w s 1)) s (1 + w) (sym e))
