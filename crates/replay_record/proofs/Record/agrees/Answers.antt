-- `Record::agrees` meets its contract: each call has its comparison, and the part of the work area that it is lent is as long as is recorded.
use mathlib.Core.Path.{◌≡◌}
use native.Mathlib.Omega.{arith}
use lib.ListN.{length, take, length-take}
use Rattle.numbers.specs.Words.{word}
use Rattle.replay_record.proofs.Agreeing.{wrote_agrees}
use Rattle.replay_record.proofs.Record.agrees.Goals as goal
use Rattle.replay_record.proofs.Record.agrees.Goals.{After-length_at-n}

long : (c : After-length_at-n) → length (take c.length_at-n.result c.zeros-work.result) ≡ word c.args.self.now.head.now 1
long c = simp length-take (omega arith)

pub supports-requires : goal.supports-requires
supports-requires c = long (goal.at.supports-requires c).After-length_at-n

pub writing-requires : goal.writing-requires
writing-requires c = long (goal.at.writing-requires c).After-length_at-n

pub sound-requires : goal.sound-requires
sound-requires c = long (goal.at.sound-requires c).After-length_at-n

pub returns-in-Writing : goal.returns-in-Writing
returns-in-Writing c = λ e. rw c.in-Writing.is (wrote_agrees _ _ (c.writing.ensures e))
