-- One reading after another: the order of brackets does not matter, and what follows counts only by what it gives.
-- Assumes nothing.
use Prim.Native.Nat.{ℕ}
use mathlib.Core.Path.{◌≡◌, refl}
use mathlib.Core.Bool.{Bool, true, false}
use mathlib.Core.List.{List}
use native.Mathlib.Omega.{arith}
use Rattle.definitions.specs.If.{when◌then◌else◌}
use Rattle.definitions.specs.Stream.{Read, broken, read, ◌then◌}
use Rattle.definitions.proofs.Reading.{Reads, stops, gives}

-- what is broken does not read
pub never : {A : Type 0} {a : A} {rest : List ℕ} {G : Type 0} → ◌≡◌ {A = Read A} broken (read a rest) → G
never e = let w : ◌≡◌ {A = ℕ} 0 1 = cc in absurd (omega arith)

module _ {A : Type 0} where
  pub then_read : (r : Read A) → r then (λ a rest. read a rest) ≡ r
  then_read broken = refl
  then_read (read a rest) = refl

  pub then_same : {B : Type 0} (r : Read A) {f g : A → List ℕ → Read B} → ((a : A) (rest : List ℕ) → f a rest ≡ g a rest) → r then f ≡ r then g
  then_same broken on = refl
  then_same (read a rest) on = on a rest

  pub then_then : {B C : Type 0} (r : Read A) (f : A → List ℕ → Read B) (g : B → List ℕ → Read C) {k : A → List ℕ → Read C}
      → ((a : A) (rest : List ℕ) → f a rest then g ≡ k a rest) → (r then f) then g ≡ r then k
  then_then broken f g on = refl
  then_then (read a rest) f g on = on a rest

  pub then_broken : {B : Type 0} {P : A → List ℕ → Type 0} {r : Read A} {f : A → List ℕ → Read B} → Reads P r
      → ((a : A) (rest : List ℕ) → P a rest → f a rest ≡ broken) → r then f ≡ broken
  then_broken stops on = refl
  then_broken (gives a rest h) on = on a rest h

  -- a test that stops
  pub else_reads : (t : Bool) {r : Read A} {a : A} {rest : List ℕ} → (when t then broken else r) ≡ read a rest → r ≡ read a rest
  unfolding when◌then◌else◌
  else_reads true e = never e
  else_reads false e = e

  pub then_reads : {B : Type 0} (r : Read A) {f : A → List ℕ → Read B} {b : B} {rest : List ℕ} → r then f ≡ read b rest
      → (a : A) × (mid : List ℕ) × (r ≡ read a mid) × (f a mid ≡ read b rest)
  then_reads broken e = never e
  then_reads (read a mid) e = (a, mid, refl, e)
