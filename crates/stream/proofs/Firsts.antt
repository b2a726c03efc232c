-- The first byte says what follows, in the code and in the definitions by the same tests.
-- Assumes nothing.
use Prim.Native.Nat.{ℕ, suc, ◌+◌, ◌-◌, ◌≤◌, ◌<◌}
use mathlib.Core.Path.{◌≡◌, refl, sym}
use mathlib.Core.List.{List, [], ◌∷◌}
use mathlib.Core.Option.{none as nothing}
use native.Mathlib.Omega.{arith}
use native.Mathlib.Decide.{ℕ_discrete}
use borrow.Author.Tests.{eq-eqb, ne_eqb}
use lib.ListN.{length, get_or, drop, length-drop, get_or-eq_default}
use Rattle.definitions.specs.If.{when◌then◌else◌}
use Rattle.definitions.specs.Usage.{nodes, nodes_of, all_nodes, buffer, memory, top_nodes}
use Rattle.definitions.specs.Command.{argument_width}
use Rattle.definitions.specs.Stream.{read, ◌then◌, number, read_node, read_nodes, read_counted, whole, memory_of, top_of, list_of}
use Rattle.numbers.specs.Words.{number_at}
use Rattle.numbers.proofs.Numbers.{number_at_lem, number_short}
use Rattle.stream.specs.Found.{type_bound, top_bound, bound_of, all_bound, opaque_of, told}
use Rattle.stream.proofs.Then.{then_then}
use Rattle.stream.proofs.Wholes.{told_made}

pub nothing_first : (s : List ℕ) → length s ≡ 0 → get_or s 0 0 ≡ 0
nothing_first s e = get_or-eq_default s 0 {n = 0} (omega arith)

pub memory_node : (s : List ℕ) → get_or s 0 0 ≡ 0x0A → memory_of s ≡ whole (read_node (drop 1 s))
unfolding memory_of when◌then◌else◌
memory_node [] h = absurd (omega arith)
memory_node (c ∷ bs) h = rw (eq-eqb c 0x0A h)

pub memory_other : (s : List ℕ) → (get_or s 0 0 ≡ 0x0A → ⊥) → memory_of s ≡ nothing
unfolding memory_of when◌then◌else◌
memory_other [] h = refl
memory_other (c ∷ bs) h = rw (ne_eqb c 0x0A h)

pub top_opaque : (s : List ℕ) → get_or s 0 0 ≡ 0x08 → top_of s ≡ opaque_of (drop 1 s)
unfolding top_of when◌then◌else◌
top_opaque [] h = absurd (omega arith)
top_opaque (c ∷ bs) h = rw (eq-eqb c 0x08 h)

-- a Buffer and a Memory tell what their node tells; their commands are next to each other
pub top_node : (s : List ℕ) → 0x09 ≤ get_or s 0 0 → get_or s 0 0 ≤ 0x0A → told top_nodes top_bound (top_of s) ≡ told nodes type_bound (whole (read_node (drop 1 s)))
unfolding top_of when◌then◌else◌
top_node [] low high = absurd (omega arith)
top_node (c ∷ bs) low high =
    elim (ℕ_discrete c 0x09) [
      | yes is ↦ rw is (told_made buffer top_nodes top_bound (read_node bs))
      | no not ↦
          let is : c ≡ 0x0A = omega arith in
          rw is (told_made memory top_nodes top_bound (read_node bs))
    ]

pub top_other : (s : List ℕ) → (get_or s 0 0 ≡ 0x08 → ⊥) → (0x09 ≤ get_or s 0 0 → get_or s 0 0 ≤ 0x0A → ⊥) → top_of s ≡ nothing
unfolding top_of when◌then◌else◌
top_other [] not out = refl
top_other (c ∷ bs) not out =
    rw (ne_eqb c 0x08 not, ne_eqb c 0x09 (λ e. out (omega arith) (omega arith)), ne_eqb c 0x0A (λ e. out (omega arith) (omega arith)))

pub list_other : (s : List ℕ) → (get_or s 0 0 ≡ 0x0B → ⊥) → list_of s ≡ nothing
unfolding list_of when◌then◌else◌
list_other [] h = refl
list_other (c ∷ bs) h = rw (ne_eqb c 0x0B h)

-- a list of at least one node, as a list
counted : (k : ℕ) (bs : List ℕ) → read_nodes (suc k) bs ≡ read_counted (suc k) bs then λ ns rest. read (ns.first ∷ ns.others) rest
counted k bs = sym (then_then (read_node bs) _ _ λ u bs₁. then_then (read_nodes k bs₁) _ _ λ us rest. refl)

list_is : (s : List ℕ) → get_or s 0 0 ≡ 0x0B → list_of s ≡ whole (number (argument_width 0x0B) (drop 1 s) then read_counted)
unfolding list_of when◌then◌else◌
list_is [] h = absurd (omega arith)
list_is (c ∷ bs) h = rw (eq-eqb c 0x0B h)

-- a list begins, and its count has w bytes
pub record Begun (s : List ℕ) (w : ℕ) : Type 0 where
  pub command : get_or s 0 0 ≡ 0x0B
  pub width : w ≡ argument_width 0x0B

module _ {s : List ℕ} {w : ℕ} (begun : Begun s w) where
  pub list_short : length s - 1 < w → list_of s ≡ nothing
  list_short short = rw (list_is s begun.command, ← begun.width, number_short w (drop 1 s) (rw length-drop short))

  module _ {n : ℕ} (long : 1 + w ≤ length s) (count : n ≡ number_at w s 1) where
    list_by : list_of s ≡ whole (read_counted n (drop (1 + w) s))
    list_by = rw (list_is s begun.command, ← begun.width, number_at_lem w s 1 (1 + w) refl long, count)

    pub list_zero : n ≡ 0 → list_of s ≡ nothing
    list_zero e = rw (list_by, e)

    pub list_nodes : (n ≡ 0 → ⊥) → told all_nodes all_bound (list_of s) ≡ told nodes_of bound_of (whole (read_nodes n (drop (1 + w) s)))
    list_nodes not =
        let is : n ≡ suc (n - 1) = omega arith in
        let rest = drop (1 + w) s in
        rw (list_by, is, counted (n - 1) rest)
        (sym (told_made (λ ns. ns.first ∷ ns.others) nodes_of bound_of (read_counted (suc (n - 1)) rest)))
