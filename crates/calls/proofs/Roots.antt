-- The own part that a node's bytes begin with is the own part of the usage that they are read as.
-- Assumes nothing.
use Prim.Native.Nat.{ℕ, zero, suc}
use mathlib.Core.Path.{◌≡◌, refl, ap}
use mathlib.Core.List.{List}
use borrow.Author.Tests.{eqb-true}
use lib.Dec.{eqb, ltb}
use lib.ListN.{drop}
use Rattle.definitions.specs.Usage.{Size, Usage, none, count}
use Rattle.definitions.specs.Command.{Head, head_of}
use Rattle.definitions.specs.Stream.{Read, broken, ◌then◌, number, read_entries, read_node, body}
use Rattle.definitions.proofs.Choice.{either, decide}
use Rattle.definitions.proofs.Reading.{Reads, stops, gives, reads_any, reads_then, reads_is}
use Rattle.stream.specs.Head.{head, PartAt}
use Rattle.stream.proofs.Then.{never}
use Rattle.stream.proofs.Heads.{read_head, head_own}
use Rattle.qptr.specs.Values.{command_of, size_of}
use Rattle.qptr.specs.declared.Node.{Node}
use Rattle.calls.specs.Roots.{RootOf}
use Rattle.calls.proofs.Memories.{Memory}

-- whatever was read first
any_then : {A B : Type 0} {Q : B → List ℕ → Type 0} (r : Read A) {next : A → List ℕ → Read B} → ((a : A) (rest : List ℕ) → Reads Q (next a rest)) → Reads Q (r then next)
any_then r on = reads_then (reads_any r) (λ a rest _. on a rest)

entries_count : (node : List ℕ → Read Usage) (k p : ℕ) (bs : List ℕ) → Reads (λ es rest. count es ≡ k) (read_entries node k p bs)
entries_count node zero p bs = gives none bs refl
entries_count node (suc k) p bs =
    any_then (number 4 bs) λ o bs₁.
    either (Reads _) (ltb o p) stops
    (any_then (node bs₁) λ u bs₂.
    reads_then (entries_count node k (suc o) bs₂) λ es rest e.
    gives _ rest (ap suc e))

-- what follows an own part gives a usage with that own part
body_own : (node : List ℕ → Read Usage) (c : ℕ) (s : Size) (n : ℕ) (bs : List ℕ) → (c ≡ 0x00 → n ≡ 0)
    → Reads (λ u rest. ◌≡◌ {A = Head} (record { command = c; size = s; argument = n }) (head_of u)) (body node c s n bs)
body_own node c s n bs bare =
    decide (Reads _) (eqb c 0x00) (λ e. let z = eqb-true c 0x00 e in gives _ bs (cc (bare z))) λ _.
    decide (Reads _) (eqb c 0x01) (λ e. gives _ bs (cc (eqb-true c 0x01 e))) λ _.
    decide (Reads _) (eqb c 0x02) (λ e. gives _ bs (cc (eqb-true c 0x02 e))) λ _.
    decide (Reads _) (eqb c 0x03) (λ e. reads_then (entries_count node n 0 bs) λ es rest f. gives _ rest (cc (eqb-true c 0x03 e))) λ _.
    decide (Reads _) (eqb c 0x04)
    (λ e. either (Reads _) (eqb n 0) stops (any_then (node bs) λ u rest. gives _ rest (cc (eqb-true c 0x04 e)))) λ _.
    stops

module _ {bs : List ℕ} {n t : ℕ} (m : Memory bs n t) where
  pub root_part : {node : Node} {end : ℕ} → PartAt bs 1 node end → RootOf bs n node
  root_part {node} {end} part =
      record {
        usage = m.usage;
        is = m.is;
        counted = m.counted;
        own =
            reads_is
            (body_own read_node (command_of node.kind) (size_of node.size) node.argument (drop end bs) (head_own _ _ _ part.reads).bare)
            (rw (read_head (drop 1 bs), part.reads) at m.reads);
      }

  pub root_none : {G : Type 0} → head (drop 1 bs) ≡ broken → G
  root_none e = never (rw (read_head (drop 1 bs), e) at m.reads)
