-- A node is its own part, and then what its command asks for: the tests of the own part are those that the reader makes later.
-- Assumes nothing.
use Prim.Native.Nat.{ℕ, zero, suc, ◌≤◌}
use mathlib.Core.Path.{◌≡◌, refl, sym, ap, ◌∙◌}
use mathlib.Core.Bool.{false}
use mathlib.Core.List.{List, [], ◌∷◌}
use native.Mathlib.Omega.{arith}
use borrow.Author.Tests.{eqb-true, eqb-false, ltb-true, ltb-false, ne_eqb}
use lib.Dec.{ltb, eqb}
use Rattle.definitions.specs.If.{when◌then◌else◌}
use Rattle.definitions.specs.Usage.{Size, Usage}
use Rattle.definitions.specs.Command.{Head, command_at, size_width, argument_width}
use Rattle.definitions.specs.Stream.{Read, read, ◌then◌, number, read_size, body, node_by, read_node}
use Rattle.definitions.proofs.Choice.{decide}
use Rattle.definitions.proofs.ReadFuel.{read_node_is}
use Rattle.definitions.proofs.Reading.{Reads, stops, gives, reads_any, reads_map, reads_then, reads_is}
use Rattle.qptr.specs.Values.{command_of, part_of, part_by}
use Rattle.qptr.specs.declared.Kind.{Kind}
use Rattle.qptr.specs.declared.Node.{Node}
use Rattle.qptr.proofs.Nodes.{part_is}
use Rattle.stream.specs.Head.{own, head, below}
use Rattle.stream.proofs.Then.{then_then}

-- what the tests of an own part leave
pub record Own (h : Head) : Type 0 where
  pub known : h.command ≤ 0x04
  pub stride : h.command ≡ 0x04 → h.argument ≡ 0 → ⊥
  pub bare : h.command ≡ 0x00 → h.argument ≡ 0

module _ (c : ℕ) (s : Size) (n : ℕ) (rest : List ℕ) where
  own_below : (node : List ℕ → Read Usage) → own c s n rest then below node ≡ body node c s n rest
  unfolding when◌then◌else◌
  own_below node =
      decide Right (ltb 0x04 c)
      (λ e.
      let no : (k : ℕ) → k ≤ 0x04 → eqb c k ≡ false = λ k h. ne_eqb c k (omega (arith, ltb-true 0x04 c e)) in
      rw (no 0x00 (omega arith), no 0x01 (omega arith), no 0x02 (omega arith), no 0x03 (omega arith), no 0x04 (omega arith)))
      λ _. decide Right (eqb c 0x04) (λ e. decide Right (eqb n 0) (λ z. rw (eqb-true c 0x04 e, z)) λ _. refl) λ _. refl
    where
      Right : Read Head → Type 0
      Right r = r then below node ≡ body node c s n rest

  own_own : (c ≡ 0x00 → n ≡ 0) → Reads (λ h rest. Own h) (own c s n rest)
  own_own bare =
      decide (Reads _) _ (λ _. stops) λ e.
      let known : c ≤ 0x04 = omega (arith, ltb-false 0x04 c e) in
      decide (Reads _) _
      (λ _. decide (Reads _) _ (λ _. stops) λ z. gives _ rest (record { known = known; stride = λ _. eqb-false n 0 z; bare = bare }))
      λ ne. gives _ rest (record { known = known; stride = λ is. absurd (eqb-false c 0x04 ne is); bare = bare })

-- what follows an own part is read by its command
pub node_head : (node : List ℕ → Read Usage) (bs : List ℕ) → node_by node bs ≡ head bs then below node
unfolding head
node_head node [] = refl
node_head node (c ∷ bs) =
    sym
    (then_then (read_size (size_width c) bs) _ _ λ s bs₁.
    then_then (number (argument_width c) bs₁) _ _ λ n rest.
    own_below c s n rest node)

pub read_head : (bs : List ℕ) → read_node bs ≡ head bs then below read_node
read_head bs = read_node_is bs ∙ node_head read_node bs

-- a number in no bytes is 0, as is the argument of an Unused
number_none : (w : ℕ) (bs : List ℕ) → Reads (λ n rest. w ≡ 0 → n ≡ 0) (number w bs)
number_none zero bs = gives 0 bs (λ _. refl)
number_none (suc w) bs = reads_map (reads_any (number (suc w) bs)) λ n rest _ e. absurd (omega arith)

head_reads : (bs : List ℕ) → Reads (λ h rest. Own h) (head bs)
unfolding head command_at
head_reads [] = stops
head_reads (c ∷ bs) =
    reads_then (reads_any (read_size (size_width c) bs)) λ s bs₁ _.
    reads_then (number_none (argument_width c) bs₁) λ n rest none.
    own_own c s n rest (λ e. none (ap argument_width e))

pub head_own : (bs : List ℕ) (h : Head) (rest : List ℕ) → head bs ≡ read h rest → Own h
head_own bs h rest e = reads_is (head_reads bs) e

-- the node that is made of what was read has that own part
pub node_reads : (bs : List ℕ) (kind : Kind) {z : Size} {n : ℕ} {rest : List ℕ} → head bs ≡ read (record { command = command_of kind; size = z; argument = n }) rest
    → (node : Node) → part_of node ≡ part_by kind z n → head bs ≡ read (part_of node) rest
node_reads bs kind {z} {n} {rest} e node made =
    let own = head_own bs _ rest e in
    e ∙ ap (λ (p : Head). read p rest) (sym (made ∙ part_is kind z n (λ is. own.bare (ap command_of is))))
