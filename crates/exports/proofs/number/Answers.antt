-- `number` meets its contract. The check finds this alone; written out, a wrong answer fails soon.
use Rattle.std.proofs.Common.{rules}
use Rattle.exports.proofs.number.Goals as goal

pub returns-in-Some-Second : goal.returns-in-Some-Second
returns-in-Some-Second c = search rules
