-- `receiver` meets its contract: who receives says which part is handed back.
use Rattle.calls.proofs.Receivers.{handed}
use Rattle.calls.proofs.receiver_rule.receiver.Goals as goal

pub returns-in-None : goal.returns-in-None
returns-in-None c = let a = c.args in handed a.choices a.first.now a.second.now c.in-None.ensures

pub returns-in-Some-First : goal.returns-in-Some-First
returns-in-Some-First c = let a = c.args in handed a.choices a.first.now a.second.now (rw c.in-Some-First.field-0-is at c.in-Some-First.ensures)

pub returns-in-Some-Second : goal.returns-in-Some-Second
returns-in-Some-Second c = let a = c.args in handed a.choices a.first.now a.second.now (rw c.in-Some-Second.field-0-is at c.in-Some-Second.ensures)
