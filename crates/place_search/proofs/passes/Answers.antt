-- `place_search::passes` meets its contract: both tests are of numbers. The check finds this alone; written out, a wrong answer fails soon.
use Rattle.std.proofs.Common.{rules}
use Rattle.place_search.proofs.passes.Goals as goal

pub returns-then-starts_before : goal.returns-then-starts_before
returns-then-starts_before c = search rules
