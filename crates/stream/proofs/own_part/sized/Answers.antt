-- `sized` meets its contract: the size says whether there is the own part of which the outline tells the rest.
use mathlib.Core.Path.{◌≡◌, ap, ◌∙◌}
use native.Mathlib.Omega.{arith}
use Rattle.definitions.specs.If.{when◌then◌else◌}
use Rattle.definitions.specs.Command.{size_width}
use Rattle.qptr.specs.Values.{command_of}
use Rattle.numbers.proofs.Widths.{size_width_lem}
use Rattle.stream.specs.Head.{OutlineAt}
use Rattle.stream.proofs.Heads.{node_reads}
use Rattle.stream.proofs.own_part.sized.Goals as goal
use Rattle.stream.proofs.own_part.sized.Goals.{In_ok-node, After-of}

-- the outline that is there
outline_is : (c : In_ok-node) → OutlineAt c.args.s.now c.args.at c.in_ok-node.field-0.node c.in_ok-node.field-0.end
outline_is c = rw (c.in_ok-node.was) at c.requires

width_is : (c : After-of) → c.of.result.size ≡ size_width (command_of c.in_ok-node.field-0.node.kind)
width_is c = ap (λ r. r.size) c.of.ensures ∙ ap size_width c.command.ensures

pub size-requires : goal.size-requires
size-requires c =
    let here = outline_is (goal.at.size-requires c).In_ok-node in
    let width = width_is (goal.at.size-requires c).After-of in
    (rw width (size_width_lem _), omega (arith, width, here.taken, here.within))

pub returns-then-not-admits : goal.returns-then-not-admits
unfolding when◌then◌else◌
returns-then-not-admits c =
    let here = outline_is (goal.at.returns-then-not-admits c).In_ok-node in
    let width = width_is (goal.at.returns-then-not-admits c).After-of in
    rw (here.reads, ← width, c.in_ok-size.ensures) (c.admits.ensures _ _ ∙ rw c.if-not-admits.true)

pub returns : goal.returns
unfolding when◌then◌else◌
returns c =
    let here = outline_is (goal.at.returns c).In_ok-node in
    let width = width_is (goal.at.returns c).After-of in
    record {
      reads =
          node_reads _ c.in_ok-node.field-0.node.kind
          (rw (here.reads, ← width, c.in_ok-size.ensures) (c.admits.ensures _ _ ∙ rw c.if-not-admits.false))
          c.new.result c.new.ensures;
      taken = omega (arith, here.taken);
      within = here.within;
    }
