-- `entries` meets its contract: only a map has any.
use Rattle.definitions.specs.If.{when◌then◌else◌}
use Rattle.stream.specs.Walk.{entries_of}
use Rattle.stream.proofs.Deciding.{no_entries}
use Rattle.stream.proofs.walk.entries.Goals as goal

pub returns-in-OffsetBase : goal.returns-in-OffsetBase
unfolding entries_of when◌then◌else◌
returns-in-OffsetBase c = rw c.in-OffsetBase.is

pub returns-in_default : goal.returns-in_default
returns-in_default c = rw (no_entries c.args.node.kind _ c.args.node.argument c.in_default.not-OffsetBase)
