-- `place_search::cut_in` meets its contract. The loop's invariant: the first k rows are the entries before p.
use Rattle.place_search.proofs.Filling.{Filling}
use Rattle.place_search.proofs.cut_in.Given as goal

abbrev pub invariant-loop-k : goal.invariant-loop-k
invariant-loop-k g l = Filling g.row.N l.s l.q l.range.end l.t l.k l.p
