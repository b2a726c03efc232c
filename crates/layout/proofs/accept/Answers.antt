-- The invariant: n records stand where the starts say, and the rest of the table is to be read behind them.
use borrow.Author.Rules.{rules}
use Rattle.layout.proofs.Acceptance.{refuses, accepts, no_count, many_records, first_record, no_record, not_admitted, next_record, left_over, found}
use Rattle.layout.proofs.accept.Goals as goal

pub returns-then-s-lt2 : goal.returns-then-s-lt2
returns-then-s-lt2 c = refuses (search (no_count, rules))

pub returns-then-count-gt-MAX_RECORDS : goal.returns-then-count-gt-MAX_RECORDS
returns-then-count-gt-MAX_RECORDS c = refuses (search (many_records, rules))

pub loop-n-init : goal.loop-n-init
loop-n-init c = search (first_record, rules)

pub returns-in_err-end : goal.returns-in_err-end
returns-in_err-end c = let b = c.in_err-end.ensures in rw c.from_residual.ensures (refuses (search (no_record, rules)))

pub returns-then-not-is_admitted : goal.returns-then-not-is_admitted
returns-then-not-is_admitted c = let w = c.in_ok-end.ensures in refuses (search (not_admitted, rules))

pub loop-n-preserved : goal.loop-n-preserved
loop-n-preserved c = let w = c.in_ok-end.ensures in search (next_record, rules)

pub returns-then-at-s : goal.returns-then-at-s
returns-then-at-s c = refuses (search (left_over, rules))

pub returns : goal.returns
returns c = accepts (search (found, rules))
