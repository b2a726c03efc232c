-- `stream_load::load` meets its contract: all nodes are loaded, and then linked.
use borrow.Author.Rules.{rules}
use Rattle.stream_load.proofs.Loading.{loaded}
use Rattle.stream_load.proofs.load.Goals as goal

pub returns : goal.returns
returns c = search (loaded, rules)
