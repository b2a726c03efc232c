-- `place_maps::passed` meets its contract. Each of its returns has its law.
use borrow.Author.Rules.{rules}
use Rattle.place_maps.proofs.Linking.{passes_none, passes_first, passes_all}
use Rattle.place_maps.proofs.passed.Goals as goal
use Rattle.place_maps.proofs.passed.Goals.{else-q-ne0-via-then-q-ne0+else-offset-o, else-q-ne0-via-else-q-ne0}

pub returns-then-offset-o : goal.returns-then-offset-o
returns-then-offset-o c = search (passes_first, rules)

pub returns : goal.returns
returns c = elim c.else-q-ne0.branch [
  | else-q-ne0-via-then-q-ne0+else-offset-o w ↦ search (passes_all, rules)
  | else-q-ne0-via-else-q-ne0 w ↦ search (passes_none, rules)
]
