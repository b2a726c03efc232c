-- What the tie rule changes: who receives on a full tie, and nothing else. And which numbers mean the same choices.
-- Assumes nothing.
use Prim.Native.Nat.{ℕ, ◌+◌, ◌*◌}
use mathlib.Core.Path.{◌≡◌, refl, ap}
use mathlib.Core.Bool.{Bool, true, false}
use native.Mathlib.Omega.{arith}
use lib.Dec.{ltb, leb, eqb}
use borrow.Author.Tests.{ltb-true, ltb-false, le-leb, le-ltb, lt-leb, not-false}
use Rattle.definitions.specs.If.{when◌then◌else◌}
use Rattle.definitions.specs.Usage.{Size, fixed, dynamic, Usage, size}
use Rattle.definitions.specs.Command.{strictness}
use Rattle.definitions.specs.Place.{◌<ˢ◌, first_receives}
use Rattle.definitions.specs.Sound.{Le}
use Rattle.definitions.specs.Requests.Choices.{Choices, choices_of, rust}
use Rattle.definitions.proofs.Sizes.{le_refl, ≤ˢ-tested}

-- the last test, of strictness m and n, where c says whether a tie is the first's
abbrev last : Bool → ℕ → ℕ → Bool
last c m n = when c then leb n m else ltb n m

last_equal : (c : Bool) (n : ℕ) → last c n n ≡ c
unfolding when◌then◌else◌
last_equal true n = le-leb n n (omega arith)
last_equal false n = le-ltb n n (omega arith)

last_unlike : (c : Bool) (m n : ℕ) → (m ≡ n → ⊥) → last c m n ≡ ltb n m
unfolding when◌then◌else◌
last_unlike true m n unlike = go (ltb n m) refl
  where
    go : (t : Bool) → ltb n m ≡ t → leb n m ≡ t
    go true e = le-leb n m (omega (arith, ltb-true n m e))
    go false e = lt-leb n m (omega (arith, ltb-false n m e, unlike))
last_unlike false m n unlike = refl

le_antisym : (s t : Size) → Le s t → Le t s → s ≡ t
unfolding Le
le_antisym dynamic dynamic h k = refl
le_antisym dynamic (fixed n) h k = absurd h
le_antisym (fixed m) dynamic h k = absurd k
le_antisym (fixed m) (fixed n) h k = ap fixed (omega arith)

-- on a full tie the choice decides
pub on_a_tie : (ch : Choices) (a b : Usage) → size a ≡ size b → strictness a ≡ strictness b → first_receives ch a b ≡ ch.ties_to_first
unfolding when◌then◌else◌
on_a_tie ch a b same tie =
    let reach = (≤ˢ-tested (size b) (size b)).1 (le_refl (size b)) in
    rw (same, tie, reach) (last_equal ch.ties_to_first (strictness b))

-- of all other two it does not
pub elsewhere : (ch : Choices) (a b : Usage) → (size a ≡ size b → strictness a ≡ strictness b → ⊥) → first_receives ch a b ≡ first_receives rust a b
unfolding when◌then◌else◌
elsewhere ch a b unlike = go (size b <ˢ size a) (size a <ˢ size b) refl refl
  where
    go : (s t : Bool) → (size b <ˢ size a) ≡ s → (size a <ˢ size b) ≡ t → first_receives ch a b ≡ first_receives rust a b
    go true t e f = rw e refl
    go false true e f = rw (e, f) refl
    go false false e f =
        let same = le_antisym (size a) (size b) ((≤ˢ-tested (size a) (size b)).0 (not-false _ e)) ((≤ˢ-tested (size b) (size a)).0 (not-false _ f)) in
        rw (e, f) (last_unlike ch.ties_to_first (strictness a) (strictness b) (unlike same))

-- choices 0 are document 01's rule
pub rust_receives : (a b : Usage) → first_receives rust a b
    ≡ (when size b <ˢ size a then true else when size a <ˢ size b then false else ltb (strictness b) (strictness a))
unfolding when◌then◌else◌
rust_receives a b = refl

abbrev by_bits : ℕ → ℕ → Choices
by_bits first second = record { ties_to_first = eqb first 1; strict_lookup = eqb second 1 }

bits_alike : {a b c d : ℕ} → a ≡ b → c ≡ d → by_bits a c ≡ by_bits b d
bits_alike e f = rw (e, f) refl

-- numbers that differ in higher bits alone mean the same
pub higher_bits : (k n : ℕ) → choices_of (k + 4 * n) ≡ choices_of k
higher_bits k n = bits_alike (omega arith) (omega arith)
