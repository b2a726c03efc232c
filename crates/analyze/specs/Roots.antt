-- A record as a node: who receives does not look at its argument.
use Rattle.std.specs.Prelude.{ℕ, ◌≡◌, List}
use Rattle.qptr.specs.Values.{kind_of, part_of, part_by}
use Rattle.qptr.specs.declared.Node.{Node}
use Rattle.records.specs.Records.{command_in, size_in}

pub record RootNode (s : List ℕ) (q : ℕ) (r : Node) : Type 0 where
  pub part : part_of r ≡ part_by (kind_of (command_in s q)) (size_in s q) 0
