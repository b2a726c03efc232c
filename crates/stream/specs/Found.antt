-- What acceptance tells of a stream: its nodes, and a bound on its types.
-- Assumes nothing.
use Rattle.std.specs.Prelude.{ℕ, suc, max, ◌+◌, ◌≤◌, ◌≡◌, List, [], ◌∷◌, Option, Some, None, length, drop}
use Rattle.std.proofs.Math.Option.{Option as Maybe, none as nothing, some}
use Rattle.definitions.specs.Limits.{max32}
use Rattle.definitions.specs.Usage.{Usage, unused, leaf, map, array, Entries, none, entry, nodes, Top, opaque, buffer, memory, Nodes}
use Rattle.definitions.specs.Command.{argument_width}
use Rattle.definitions.specs.Stream.{read, broken, ◌then◌, number, read_node, whole}
use Rattle.stream.specs.declared.Found.{Found}
use Rattle.stream.specs.declared.Span.{Span}

-- one more than the largest type, or 0 where there is none
abbrev mutual
  pub type_bound : Usage → ℕ
  type_bound (unused s) = 0
  type_bound (leaf s k t) = suc t
  type_bound (map s es) = type_bound_in es
  type_bound (array s n e) = type_bound e

  pub type_bound_in : Entries → ℕ
  type_bound_in none = 0
  type_bound_in (entry o u es) = max (type_bound u) (type_bound_in es)

abbrev pub top_bound : Top → ℕ
top_bound (opaque t) = suc t
top_bound (buffer u) = type_bound u
top_bound (memory u) = type_bound u

abbrev pub bound_of : List Usage → ℕ
bound_of [] = 0
bound_of (u ∷ us) = max (type_bound u) (bound_of us)

abbrev pub all_bound : Nodes → ℕ
all_bound ns = bound_of (ns.first ∷ ns.others)

-- an Opaque, behind its command
abbrev pub opaque_of : List ℕ → Maybe Top
opaque_of bs = whole (number (argument_width 0x08) bs then λ t rest. read (opaque t) rest)

-- what is found where the definitions read x: something with so many nodes and such types, or nothing
abbrev pub told : {A : Type 0} → (A → ℕ) → (A → ℕ) → Maybe A → Option Found
told n b (some x) = Some (record { nodes = n x; types = b x })
told n b nothing = None

-- the node at a place of s
pub record NodeAt (s : List ℕ) (at end n t : ℕ) : Type 0 where
  pub usage : Usage
  pub reads : read_node (drop at s) ≡ read usage (drop end s)
  pub counted : n ≡ nodes usage
  pub bounded : t ≡ type_bound usage
  pub taken : at + n ≤ end
  pub within : end ≤ length s
  pub small : t ≤ suc max32

-- the node at a place of s, or that there is none
abbrev pub Spans : List ℕ → ℕ → Option Span → Type 0
Spans s at (Some span) = NodeAt s at span.end span.nodes span.types
Spans s at None = read_node (drop at s) ≡ broken
