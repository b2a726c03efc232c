-- What acceptance tells of a Memory: that it is read as a usage with such nodes and types, or that it is not read.
-- Assumes nothing.
use Prim.Native.Nat.{ℕ, ◌≤◌}
use mathlib.Core.Path.{◌≡◌, refl, ap}
use mathlib.Core.List.{List, [], ◌∷◌}
use mathlib.Core.Option.{Option as Maybe, none as nothing, some}
use native.Mathlib.Omega.{arith}
use lib.Dec.{eqb}
use lib.ListN.{length, drop}
use Rattle.std.specs.Prelude.{Option, Some, None}
use Rattle.std.proofs.lemmas.Option.{same_Some}
use Rattle.definitions.specs.Usage.{Usage, nodes}
use Rattle.definitions.specs.Stream.{Read, broken, read, read_node, read_memory, memory_of}
use Rattle.definitions.proofs.Choice.{either}
use Rattle.definitions.proofs.Reading.{Reads, stops, gives, reads_whole}
use Rattle.stream.specs.Found.{type_bound, told}
use Rattle.stream.specs.declared.Found.{Found}

-- the bytes are read as this usage, behind the first byte
abbrev Behind : List ℕ → Usage → List ℕ → Type 0
Behind bs u rest = (1 ≤ length bs) × (read_node (drop 1 bs) ≡ read u rest)

behind : (bs : List ℕ) → Reads (Behind bs) (read_memory bs)
behind [] = stops
behind (c ∷ bs) = either (Reads _) (eqb c 0x0A) (node (read_node bs) refl) stops
  where
    node : (r : Read Usage) → read_node bs ≡ r → Reads (Behind (c ∷ bs)) r
    node broken e = stops
    node (read u rest) e = gives u rest (omega arith, e)

-- the bytes are a Memory of n nodes, with types below t
pub record Memory (bs : List ℕ) (n t : ℕ) : Type 0 where
  pub usage : Usage
  pub is : memory_of bs ≡ some usage
  pub some_bytes : 1 ≤ length bs
  pub reads : read_node (drop 1 bs) ≡ read usage []
  pub counted : n ≡ nodes usage
  pub bounded : t ≡ type_bound usage

-- what is told of a stream
abbrev pub told_memory : List ℕ → Option Found
told_memory bs = told nodes type_bound (memory_of bs)

module _ (bs : List ℕ) where
  pub read_as : (u : Usage) → memory_of bs ≡ some u → {n : ℕ} → n ≡ nodes u → Memory bs n (type_bound u)
  unfolding memory_of
  read_as u e counted =
      let b = reads_whole (behind bs) e in
      record { usage = u; is = e; some_bytes = b.0; reads = b.1; counted = counted; bounded = refl }

  pub found : {f : Found} → Some f ≡ told_memory bs → Memory bs f.nodes f.types
  found {f} = go (memory_of bs) refl
    where
      go : (r : Maybe Usage) → memory_of bs ≡ r → Some f ≡ told nodes type_bound r → Memory bs f.nodes f.types
      go nothing e p = let z : ◌≡◌ {A = ℕ} 0 1 = cc in absurd (omega arith)
      go (some u) e p =
          let is = same_Some _ _ p in
          rw (ap (λ (f : Found). f.types) is) (read_as u e (ap (λ (f : Found). f.nodes) is))

  pub lost : None ≡ told_memory bs → memory_of bs ≡ nothing
  lost = go (memory_of bs)
    where
      go : (r : Maybe Usage) → None ≡ told nodes type_bound r → r ≡ nothing
      go nothing p = refl
      go (some u) p = let z : ◌≡◌ {A = ℕ} 0 1 = cc in absurd (omega arith)
