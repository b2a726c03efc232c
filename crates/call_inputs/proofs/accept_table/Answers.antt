-- `accept_table` meets its contract: the work area is measured first.
use Rattle.call_inputs.proofs.Meeting.{table_short, table_met}
use Rattle.call_inputs.proofs.accept_table.Goals as goal

pub returns-then-work-lt-WORK_LIMIT : goal.returns-then-work-lt-WORK_LIMIT
returns-then-work-lt-WORK_LIMIT c = table_short c.if-work-lt-WORK_LIMIT.true

pub returns : goal.returns
returns c = rw c.ok_or.ensures.value (table_met c.if-work-lt-WORK_LIMIT.false c.accept.result c.accept.ensures)
