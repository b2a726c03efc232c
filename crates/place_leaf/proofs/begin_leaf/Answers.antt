-- The leaf is written where it stood, with what the calls say of its type and its kind, and its conflict is reported.
use Rattle.std.proofs.Common.{rules}
use Rattle.place_leaf.proofs.Beginning.{leaf_begins}
use Rattle.place_leaf.proofs.begin_leaf.Goals as goal

pub returns : goal.returns
returns c =
    leaf_begins _ _ _ _ _ _ _ _ _ _ _ _ _ _ c.requires.plain c.requires.typed c.kept_type-kept.ensures.keeps c.kept_type-kept.ensures.unchanged c.kind.ensures c.kind-2.ensures c.stricter-c.ensures (rw (c.from.ensures, c.command.ensures) at c.put_type.ensures) (search rules) c.report_conflict.ensures c.finished.ensures
