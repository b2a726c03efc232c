-- What is told of a Memory stream whose root alone matters.
-- Assumes nothing.
use Rattle.std.specs.Prelude.{ℕ, ◌≡◌, List, Option, Some, None}
use Rattle.std.proofs.Math.Option.{none as nothing, some}
use Rattle.definitions.specs.Usage.{Usage, nodes}
use Rattle.definitions.specs.Stream.{memory_of}
use Rattle.qptr.specs.Values.{OwnPart}
use Rattle.qptr.specs.declared.Node.{Node}
use Rattle.calls.specs.declared.receiver_rule.Root.{Root}

-- the bytes are a usage of n nodes, with this own part
pub record RootOf (bs : List ℕ) (n : ℕ) (node : Node) : Type 0 where
  pub usage : Usage
  pub is : memory_of bs ≡ some usage
  pub counted : n ≡ nodes usage
  pub own : OwnPart node usage

abbrev pub Rooted : List ℕ → Option Root → Type 0
Rooted bs (Some root) = RootOf bs root.nodes root.node
Rooted bs None = memory_of bs ≡ nothing
