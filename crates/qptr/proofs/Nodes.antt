-- Who receives is read off the nodes: a usage has its own part's size, and the strictness of its own part's command.
-- A node is made of its operands: whatever they are, some usage has them.
-- Assumes nothing.
use Prim.Native.Nat.{ℕ, zero, suc, ◌≤◌}
use mathlib.Core.Path.{◌≡◌, refl, sym, ap, ◌∙◌}
use mathlib.Core.Bool.{Bool, true, false}
use native.Mathlib.Omega.{arith}
use lib.Dec.{ltb, leb}
use Rattle.definitions.specs.If.{when◌then◌else◌}
use Rattle.definitions.specs.Usage.{Size, Usage, UNUSED, unused, leaf, map, array, size, Entries, none, entry, count}
use Rattle.definitions.specs.Command.{Head, head_of, command_at, strictness}
use Rattle.definitions.specs.Place.{◌<ˢ◌}
use Rattle.qptr.specs.declared.Node.{Node}
use Rattle.qptr.specs.declared.choices.Choices.{Choices}
use Rattle.qptr.specs.declared.choices.Ties.TheVariants.{First, Second}
use Rattle.qptr.specs.Choices.{choices_in}
use Rattle.qptr.specs.declared.TheConstants.Node as Constants
use Rattle.std.specs.Ordering.{partial_lt, partial_le}
use Rattle.qptr.specs.declared.MaxSize.{MaxSize}
use Rattle.qptr.specs.declared.Strictness.{Strictness}
use Rattle.qptr.specs.contracts.MaxSizePartialOrd.TheImpl.{partial_cmp-value as size_cmp}
use Rattle.qptr.specs.contracts.StrictnessPartialOrd.TheImpl.{partial_cmp-value as strictness_cmp}
use Rattle.qptr.proofs.Orders.{less_size, less_strict, upto_strict}
use Rattle.qptr.proofs.Usages.{head_size}
use Rattle.qptr.specs.declared.Kind.{Kind}
use Rattle.qptr.specs.declared.Kind.TheVariants.{Unused, StrictlyTyped, DirectAccess, OffsetBase, DynOffsetBase}
use Rattle.qptr.specs.Values.{size_of, strictness_of, command_of, kind_of, part_by, part_by_command, OwnPart, Receives}

-- a kind's node is that of its command
pub by_command : (k : Kind) (z : Size) (n : ℕ) → part_by k z n ≡ part_by_command (command_of k) z n
unfolding when◌then◌else◌
by_command Unused z n = refl
by_command StrictlyTyped z n = refl
by_command DirectAccess z n = refl
by_command OffsetBase z n = refl
by_command DynOffsetBase z n = refl

-- `first_receives`, of nodes
abbrev pub node_receives : Choices → Node → Node → Bool
node_receives ch a b =
    when size_of b.size <ˢ size_of a.size then true
    else when size_of a.size <ˢ size_of b.size then false
    else when (choices_in ch).ties_to_first then leb (command_at (command_of b.kind)).strictness (command_at (command_of a.kind)).strictness
    else ltb (command_at (command_of b.kind)).strictness (command_at (command_of a.kind)).strictness

module _ (n : Node) (u : Usage) (stands : OwnPart n u) where
  same_size : size_of n.size ≡ size u
  same_size = ap (λ (h : Head). h.size) stands ∙ head_size u

  same_strictness : (command_at (command_of n.kind)).strictness ≡ strictness u
  same_strictness = ap (λ (h : Head). (command_at h.command).strictness) stands

pub receives : {ch : Choices} {a b : Node} {r : Bool} → r ≡ node_receives ch a b → Receives ch a b r
receives {ch} {a} {b} e = record {
  of = λ u v p q. rw (← same_size a u p, ← same_size b v q, ← same_strictness a u p, ← same_strictness b v q) e;
}

-- the code's tests, in its order

size_test : (m n : MaxSize) {t v : Bool} → t ≡ partial_lt size_cmp.it m n → t ≡ v → (size_of m <ˢ size_of n) ≡ v
size_test m n e is = sym (less_size m n) ∙ sym e ∙ is

module _ (ch : Choices) (a b : Node) {larger : Bool} (e : larger ≡ partial_lt size_cmp.it b.size a.size) where
  pub first_larger : larger ≡ true → Receives ch a b true
  unfolding when◌then◌else◌
  first_larger is = receives (rw (size_test b.size a.size e is) refl)

  module _ (not : larger ≡ false) {smaller : Bool} (f : smaller ≡ partial_lt size_cmp.it a.size b.size) where
    pub second_larger : smaller ≡ true → Receives ch a b false
    unfolding when◌then◌else◌
    second_larger is = receives (rw (size_test b.size a.size e not, size_test a.size b.size f is) refl)

    module _ (nor : smaller ≡ false) (s t : Strictness) {r : Bool}
        (es : strictness_of s ≡ (command_at (command_of b.kind)).strictness) (et : strictness_of t ≡ (command_at (command_of a.kind)).strictness) where
      pub tie_to_first : ch.ties ≡ First → r ≡ partial_le strictness_cmp.it s t → Receives ch a b r
      unfolding when◌then◌else◌ choices_in
      tie_to_first chosen g =
          receives (rw (size_test b.size a.size e not, size_test a.size b.size f nor, chosen, ← es, ← et) (g ∙ upto_strict s t))

      pub tie_to_second : ch.ties ≡ Second → r ≡ partial_lt strictness_cmp.it s t → Receives ch a b r
      unfolding when◌then◌else◌ choices_in
      tie_to_second chosen g =
          receives (rw (size_test b.size a.size e not, size_test a.size b.size f nor, chosen, ← es, ← et) (g ∙ less_strict s t))

pub entries_of_lem : (n : ℕ) → (es : Entries) × (count es ≡ n)
entries_of_lem zero = (none, refl)
entries_of_lem (suc n) = let more = entries_of_lem n in (entry 0 UNUSED more.0, ap suc more.1)

-- the constant of the node type is the definitions' placeholder
pub unused_stands : OwnPart Constants.UNUSED UNUSED
unused_stands = refl

-- a kind and its command

pub command_kind : (c : ℕ) → c ≤ 0x04 → command_of (kind_of c) ≡ c
command_kind zero h = refl
command_kind (suc zero) h = refl
command_kind (suc (suc zero)) h = refl
command_kind (suc (suc (suc zero))) h = refl
command_kind (suc (suc (suc (suc zero)))) h = refl
command_kind (suc (suc (suc (suc (suc c))))) h = absurd (omega arith)

pub command_small : (k : Kind) → command_of k ≤ 0x04
command_small Unused = omega arith
command_small StrictlyTyped = omega arith
command_small DirectAccess = omega arith
command_small OffsetBase = omega arith
command_small DynOffsetBase = omega arith

-- what is not the placeholder's kind tells the command
pub known_command : (c : ℕ) (k : Kind) → k ≡ kind_of c → (k ≡ Unused → ⊥) → c ≡ command_of k
known_command zero k e some = absurd (some e)
known_command (suc zero) k e some = rw e refl
known_command (suc (suc zero)) k e some = rw e refl
known_command (suc (suc (suc zero))) k e some = rw e refl
known_command (suc (suc (suc (suc zero)))) k e some = rw e refl
known_command (suc (suc (suc (suc (suc c))))) k e some = absurd (some e)

pub map_command : {c : ℕ} {k : Kind} → k ≡ kind_of c → k ≡ OffsetBase → c ≡ 3
map_command {c} e h = known_command c OffsetBase (sym h ∙ e) (λ z. cc)

pub array_command : {c : ℕ} {k : Kind} → k ≡ kind_of c → k ≡ DynOffsetBase → c ≡ 4
array_command {c} e h = known_command c DynOffsetBase (sym h ∙ e) (λ z. cc)

-- a usage's own part has some kind's command

pub head_small : (u : Usage) → (head_of u).command ≤ 0x04
head_small (unused z) = omega arith
head_small (leaf z true t) = omega arith
head_small (leaf z false t) = omega arith
head_small (map z es) = omega arith
head_small (array z n e) = omega arith

pub kind_head : (k : Kind) (u : Usage) → k ≡ kind_of (head_of u).command → (head_of u).command ≡ command_of k
kind_head k u e = rw e (sym (command_kind (head_of u).command (head_small u)))

-- a node's kind and operands are its own part
pub part_is : (k : Kind) (z : Size) (n : ℕ) → (k ≡ Unused → n ≡ 0) → part_by k z n ≡ record { command = command_of k; size = z; argument = n }
part_is Unused z n bare = rw (bare refl) refl
part_is StrictlyTyped z n bare = refl
part_is DirectAccess z n bare = refl
part_is OffsetBase z n bare = refl
part_is DynOffsetBase z n bare = refl
