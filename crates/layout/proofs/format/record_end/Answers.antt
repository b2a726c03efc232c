-- Each kind has its length; any other byte is no kind.
use borrow.Author.Rules.{rules}
use Rattle.layout.proofs.Ends.{no_kind, lone_ends, scalar_ends}
use Rattle.layout.proofs.format.record_end.Goals as goal

pub returns-in-35 : goal.returns-in-35
returns-in-35 c = let l = c.in_ok-get.ensures.lookup in let k = l.3.1 0 in search (lone_ends, rules)

pub returns-in-32 : goal.returns-in-32
returns-in-32 c = let l = c.in_ok-get.ensures.lookup in let k = l.3.1 0 in search (scalar_ends, rules)

pub returns-in_default : goal.returns-in_default
returns-in_default c = let l = c.in_ok-get.ensures.lookup in let k = l.3.1 0 in search (no_kind, rules)

pub returns-in_default-2 : goal.returns-in_default-2
returns-in_default-2 c = let l = c.in_ok-get.ensures.lookup in let k = l.3.1 0 in search (no_kind, rules)
