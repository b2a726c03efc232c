-- What a kind decides is decided by the same tests in the code and in the definitions.
-- Assumes nothing.
use Prim.Native.Nat.{ℕ, suc}
use mathlib.Core.Path.{◌≡◌, refl}
use mathlib.Core.Bool.{Bool, true, false, not}
use mathlib.Core.Logic.{◌⊎◌, inl, inr}
use lib.Dec.{eqb}
use Rattle.definitions.specs.If.{when◌then◌else◌}
use Rattle.definitions.specs.Usage.{Size}
use Rattle.definitions.specs.Command.{Head}
use Rattle.definitions.specs.Stream.{broken, read, ◌then◌}
use Rattle.qptr.specs.declared.Kind.{Kind}
use Rattle.qptr.specs.declared.Kind.TheVariants.{Unused, StrictlyTyped, DirectAccess, OffsetBase, DynOffsetBase}
use Rattle.qptr.specs.declared.Node.{Node}
use Rattle.qptr.specs.Values.{command_of, part_of}
use Rattle.stream.specs.Head.{Admits}
use Rattle.stream.specs.Walk.{entries_of, own_bound}

if_not : {A : Type 0} (t : Bool) (x y : A) → (when t then x else y) ≡ (when not t then y else x)
unfolding when◌then◌else◌
if_not true x y = refl
if_not false x y = refl

pub known_array : (n : ℕ) → Admits 0x04 n (not (eqb n 0))
unfolding when◌then◌else◌
known_array n z rest = if_not (eqb n 0) broken (read (record { command = 0x04; size = z; argument = n }) rest)

pub known_other : (k : Kind) (n : ℕ) → (k ≡ DynOffsetBase → ⊥) → Admits (command_of k) n true
unfolding when◌then◌else◌
known_other Unused n other z rest = refl
known_other StrictlyTyped n other z rest = refl
known_other DirectAccess n other z rest = refl
known_other OffsetBase n other z rest = refl
known_other DynOffsetBase n other z rest = absurd (other refl)

-- the own part of this kind
abbrev own_part : Kind → Size → ℕ → Head
own_part k z n = record { command = command_of k; size = z; argument = n }

pub no_entries : (k : Kind) (z : Size) (n : ℕ) → (k ≡ OffsetBase → ⊥) → entries_of (own_part k z n) ≡ 0
unfolding entries_of when◌then◌else◌
no_entries Unused z n other = refl
no_entries StrictlyTyped z n other = refl
no_entries DirectAccess z n other = refl
no_entries OffsetBase z n other = absurd (other refl)
no_entries DynOffsetBase z n other = refl

pub typed : (n : Node) → (n.kind ≡ StrictlyTyped) ⊎ (n.kind ≡ DirectAccess) → own_bound (part_of n) ≡ suc n.argument
unfolding own_bound when◌then◌else◌
typed n (inl e) = rw e
typed n (inr e) = rw e

pub untyped : (k : Kind) (z : Size) (n : ℕ) → (k ≡ StrictlyTyped → ⊥) → (k ≡ DirectAccess → ⊥) → own_bound (own_part k z n) ≡ 0
unfolding own_bound when◌then◌else◌
untyped Unused z n strict direct = refl
untyped StrictlyTyped z n strict direct = absurd (strict refl)
untyped DirectAccess z n strict direct = absurd (direct refl)
untyped OffsetBase z n strict direct = refl
untyped DynOffsetBase z n strict direct = refl
