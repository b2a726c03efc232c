-- What is left open is asked of records that remember nothing, and that say else what they said.
use Rattle.support.proofs.Staying.{supports_before, open_after, asks_after}
use Rattle.support.proofs.supports_usage_at_offset.Goals as goal

pub supports_blank-requires-clause-askable : goal.supports_blank-requires-clause-askable
supports_blank-requires-clause-askable c = asks_after c.forget-seen.ensures.records c.requires

pub supports_blank-requires-clause-left_open : goal.supports_blank-requires-clause-left_open
supports_blank-requires-clause-left_open c = open_after c.forget-seen.ensures.records c.in-None.ensures

pub returns-in-None-clause-supports : goal.returns-in-None-clause-supports
returns-in-None-clause-supports c = supports_before c.forget-seen.ensures.records c.supports_blank.ensures.supports
