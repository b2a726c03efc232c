-- `bound` meets its contract: only a leaf has a type.
use native.Mathlib.Numerals.{add-one}
use borrow.Author.Rules.{rules}
use Rattle.stream.proofs.Deciding.{typed, untyped}
use Rattle.stream.proofs.bound.Goals as goal

pub returns-in-StrictlyTyped : goal.returns-in-StrictlyTyped
returns-in-StrictlyTyped c = (rw (c.from.ensures, typed c.args.node c.in-StrictlyTyped.is, add-one), search rules)

pub returns-in_default : goal.returns-in_default
returns-in_default c =
    let n = c.args.node in
    (rw (untyped n.kind _ n.argument c.in_default.not-StrictlyTyped c.in_default.not-DirectAccess), search rules)
