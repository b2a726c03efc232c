-- `Entry::ends_by` meets its contract: the end is compared as a number. The check finds this alone; written out, a wrong answer fails soon.
use Rattle.std.proofs.Common.{rules}
use Rattle.place_search.proofs.Entry.ends_by.Goals as goal

pub returns : goal.returns
returns c = search rules
