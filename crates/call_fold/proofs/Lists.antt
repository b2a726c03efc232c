-- What an accepted list's bytes are: 0B, a count, the first node and, as many as the count says, the others.
-- Assumes nothing.
use Rattle.std.proofs.Common.{◌≡◌, ℕ, zero, suc, ◌+◌, ◌≤◌, eqb, List, [], ◌∷◌, length, drop, refl, arith}
use mathlib.Core.Option.{some}
use Rattle.definitions.specs.Usage.{Usage, Nodes}
use Rattle.definitions.specs.Command.{argument_width}
use Rattle.definitions.specs.Stream.{Read, broken, read, ◌then◌, read_node, read_nodes, read_counted, read_list, list_of}
use Rattle.definitions.proofs.Choice.{either}
use Rattle.definitions.proofs.Reading.{Reads, stops, gives, reads_map, reads_is, reads_whole}
use Rattle.numbers.specs.Words.{number_at}
use Rattle.numbers.proofs.Numbers.{number_then}

-- a is made of a node and of k others behind it
pub record Listed {A : Type 0} (made : Usage → List Usage → A) (k : ℕ) (bs : List ℕ) (a : A) (rest : List ℕ) : Type 0 where
  pub first : Usage
  pub others : List Usage
  pub is : a ≡ made first others
  pub behind : List ℕ
  pub first_reads : read_node bs ≡ read first behind
  pub others_read : read_nodes k behind ≡ read others rest

module _ {A : Type 0} (made : Usage → List Usage → A) (k : ℕ) (bs : List ℕ) where
  listed : Reads (Listed made k bs) (read_node bs then λ u bs₁. read_nodes k bs₁ then λ us rest. read (made u us) rest)
  listed = one (read_node bs) refl
    where
      more : (u : Usage) (bs₁ : List ℕ) → read_node bs ≡ read u bs₁ → (r : Read (List Usage)) → read_nodes k bs₁ ≡ r
          → Reads (Listed made k bs) (r then λ us rest. read (made u us) rest)
      more u bs₁ e broken f = stops
      more u bs₁ e (read us rest) f =
          gives (made u us) rest (record { first = u; others = us; is = refl; behind = bs₁; first_reads = e; others_read = f })

      one : (r : Read Usage) → read_node bs ≡ r → Reads (Listed made k bs) (r then λ u bs₁. read_nodes k bs₁ then λ us rest. read (made u us) rest)
      one broken e = stops
      one (read u bs₁) e = more u bs₁ e (read_nodes k bs₁) refl

-- nodes that are left are a node and those behind it
pub nodes_left : (k : ℕ) (bs : List ℕ) {us : List Usage} {rest : List ℕ} → read_nodes (suc k) bs ≡ read us rest → Listed ◌∷◌ k bs us rest
nodes_left k bs e = reads_is (listed ◌∷◌ k bs) e

-- so many nodes: the first, and the others behind it
pub record Counted (count : ℕ) (bs : List ℕ) (ns : Nodes) (rest : List ℕ) : Type 0 where
  pub others_count : ℕ
  pub counted : count ≡ suc others_count
  pub behind : List ℕ
  pub first_reads : read_node bs ≡ read ns.first behind
  pub others_read : read_nodes others_count behind ≡ read ns.others rest

counted : (count : ℕ) (bs : List ℕ) → Reads (Counted count bs) (read_counted count bs)
counted zero bs = stops
counted (suc k) bs =
    reads_map (listed (λ u us. record { first = u; others = us }) k bs) (λ ns rest h.
    rw h.is (record { others_count = k; counted = refl; behind = h.behind; first_reads = h.first_reads; others_read = h.others_read }))

-- behind the command
abbrev Behind : List ℕ → Nodes → List ℕ → Type 0
Behind bs ns rest = (1 + argument_width 0x0B ≤ length bs) × Counted (number_at (argument_width 0x0B) bs 1) (drop (1 + argument_width 0x0B) bs) ns rest

behind : (bs : List ℕ) → Reads (Behind bs) (read_list bs)
behind [] = stops
behind (c ∷ bs) =
    let w = argument_width 0x0B in
    let all = c ∷ bs in
    either (Reads _) (eqb c 0x0B)
    (number_then (Reads (Behind all)) w all 1 (1 + w) read_counted (omega arith) stops refl λ inside.
    reads_map (counted (number_at w all 1) (drop (1 + w) all)) (λ ns rest h. (inside, h)))
    stops

pub list_behind : (bs : List ℕ) {ns : Nodes} → list_of bs ≡ some ns → Behind bs ns []
unfolding list_of
list_behind bs e = reads_whole (behind bs) e
