-- `place_search::behind` meets its contract: what was stepped over is below, and nothing overlaps where none is left that starts before e.
use borrow.Author.Rules.{rules}
use Rattle.place_search.proofs.Skipping.{skip_within}
use Rattle.place_search.proofs.Parting.{reaches, sought_none, sought_found, sought_behind}
use Rattle.place_search.proofs.behind.Goals as goal

pub starts_before-requires : goal.starts_before-requires
starts_before-requires c = search (skip_within, rules)

pub found-requires : goal.found-requires
found-requires c = search (reaches, rules)

pub returns-then-starts_before : goal.returns-then-starts_before
returns-then-starts_before c = sought_behind c.skip-to.ensures (sought_found c.cut_all.ensures c.found.result c.found.ensures)

pub returns : goal.returns
returns c = search (sought_none, rules)
