-- `Node::of` meets its contract: a command that a node has is its kind's, and what no node has is above 04.
use mathlib.Core.Path.{ap, ◌∙◌}
use native.Mathlib.Omega.{arith}
use borrow.Author.Tests.{ne_eqb, lt-ltb}
use Rattle.definitions.specs.If.{when◌then◌else◌}
use Rattle.qptr.specs.Values.{size_of, part_by_command}
use Rattle.qptr.proofs.Nodes.{by_command}
use Rattle.qptr.proofs.Node.of.Goals as goal

pub returns-in-Ok : goal.returns-in-Ok
returns-in-Ok c =
    c.new.ensures ∙ by_command c.in-Ok.kind (size_of c.args.size) c.args.argument
    ∙ ap (λ k. part_by_command k (size_of c.args.size) c.args.argument) (c.in-Ok.ensures ∙ c.from.ensures)

pub returns-in-Err : goal.returns-in-Err
unfolding when◌then◌else◌
returns-in-Err c =
    let k = c.args.command in rw (ne_eqb k 0x00 (omega (arith, c.in-Err.ensures, c.from.ensures)), lt-ltb 0x04 k (omega (arith, c.in-Err.ensures, c.from.ensures)))
