-- `fold_nodes` meets its contract: what is left to fold, with what was reported and counted so far, gives what the definition does. A
-- refusal ends the fold.
use Rattle.std.proofs.Common.{◌≡◌, length}
use Rattle.definitions.specs.Usage.{Nodes}
use Rattle.definitions.specs.Table.{Setting}
use Rattle.call_fold.specs.Folding.{Foldable}
use Rattle.call_fold.proofs.Folds.{Folding}
use Rattle.call_fold.proofs.fold_nodes.Given as goal

abbrev pub invariant-loop-i : goal.invariant-loop-i
invariant-loop-i l = ((st : Setting) (ns : Nodes) → Foldable l.setting l.list st ns → Folding st ns l.list l.count l.initial.report l.work l.report l.f l.i) × (length l.work ≡ length l.initial.work)
