-- `load_both` meets its contract: the second usage is loaded behind the first, which stays as it was.
use borrow.Author.Rules.{rules}
use Rattle.call_inputs.proofs.SideBySide.{both_loaded}
use Rattle.call_inputs.proofs.load_both.Goals as goal

pub returns : goal.returns
returns c = both_loaded (search rules) c.load.ensures c.load-2.ensures
