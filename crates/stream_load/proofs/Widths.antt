-- The offset in front of a node: as long as the kind of the node before it says.
-- Assumes nothing.
use Prim.Native.Nat.{ℕ, ◌+◌}
use mathlib.Core.Path.{◌≡◌, refl, ap, ◌∙◌}
use native.Mathlib.Omega.{arith}
use borrow.Author.Tests.{eq-eqb, ne_eqb}
use lib.Dec.{eqb}
use lib.ListN.{length, length-append}
use Rattle.definitions.specs.If.{when◌then◌else◌}
use Rattle.definitions.specs.Usage.{Usage}
use Rattle.definitions.specs.Command.{head_of}
use Rattle.definitions.specs.Stream.{bytes, write_head}
use Rattle.definitions.proofs.Choice.{either}
use Rattle.definitions.proofs.Numbers.{bytes_length}
use Rattle.qptr.specs.declared.Kind.{Kind}
use Rattle.qptr.specs.declared.Kind.TheVariants.{DynOffsetBase}
use Rattle.qptr.specs.Values.{kind_of}
use Rattle.qptr.proofs.Nodes.{array_command}
use Rattle.numbers.specs.Words.{Width}
use Rattle.numbers.specs.Widths.{own_width}
use Rattle.numbers.proofs.Widths.{no_bytes, four_bytes, head_length}
use Rattle.stream_load.specs.Nodes.{front_behind, own}

pub front_array : (k : Kind) (c : ℕ) → k ≡ kind_of c → k ≡ DynOffsetBase → 0 ≡ front_behind c
unfolding front_behind when◌then◌else◌
front_array k c e h = rw (eq-eqb c 4 (array_command e h)) refl

pub front_other : (k : Kind) (c : ℕ) → k ≡ kind_of c → (k ≡ DynOffsetBase → ⊥) → 4 ≡ front_behind c
unfolding front_behind when◌then◌else◌
front_other k c e h = rw (ne_eqb c 4 (λ four. h (e ∙ ap kind_of four))) refl

pub own_length : (front o : ℕ) (u : Usage) → length (own front o u) ≡ front + own_width (head_of u).command
own_length front o u = omega (arith, length-append (bytes front o) (write_head (head_of u)), bytes_length front o, head_length (head_of u))

pub front_width : (c : ℕ) → Width (front_behind c)
unfolding front_behind
front_width c = either Width (eqb c 4) no_bytes four_bytes
