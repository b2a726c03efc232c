-- Each rule has its step, and what rule 5's leaves holds whatever the report. Rule 6 is the one that goes on as `next_join` asks.
use Rattle.std.proofs.Common.{refl, rules}
use Rattle.place_arrays.proofs.Wrapping.{wrapped_moves}
use Rattle.place_rules.proofs.step.Goals as goal

pub next_join-requires-clause-rule : goal.next_join-requires-clause-rule
next_join-requires-clause-rule c = search refl

pub returns-in-Element : goal.returns-in-Element
returns-in-Element c = search (wrapped_moves, rules)
