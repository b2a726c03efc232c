-- `root_of` meets its contract: a Memory is read behind its first byte, and so is its root's own part.
use Rattle.calls.proofs.Memories.{Memory, found, lost}
use Rattle.calls.proofs.Roots.{root_part, root_none}
use Rattle.calls.proofs.receiver_rule.root_of.Goals as goal
use Rattle.calls.proofs.receiver_rule.root_of.Goals.{In_ok-found}

memory : (c : In_ok-found) → Memory c.args.s.now c.in_ok-found.found.nodes c.in_ok-found.found.types
memory c = found c.args.s.now c.in_ok-found.ensures

pub returns-in_err-found : goal.returns-in_err-found
returns-in_err-found c = rw c.from_residual.ensures (lost c.args.s.now c.in_err-found.ensures)

pub header-requires : goal.header-requires
header-requires c = (memory (goal.at.header-requires c).In_ok-found).some_bytes

pub returns-in_err-header : goal.returns-in_err-header
returns-in_err-header c = root_none (memory (goal.at.returns-in_err-header c).In_ok-found) c.in_err-header.ensures

pub returns : goal.returns
returns c = root_part (memory (goal.at.returns c).In_ok-found) c.in_ok-header.ensures
