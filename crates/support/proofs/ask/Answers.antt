-- A concrete layout answers by what it supports, and any other by itself.
use Rattle.std.proofs.Common.{refl, rules}
use Rattle.definitions.specs.Place.{asked}
use Rattle.support.proofs.Asking.{ok_answers}
use Rattle.support.proofs.Types.{layout_is}
use Rattle.support.proofs.ask.Goals as goal

pub returns-in-Handle-clause-asked : goal.returns-in-Handle-clause-asked
returns-in-Handle-clause-asked c =
    record { is = λ st k b u r lo hi a otherwise. rw (asked, layout_is c.layout_of.ensures c.in-Handle.is st k b) refl }

pub returns-in-Failed-clause-asked : goal.returns-in-Failed-clause-asked
returns-in-Failed-clause-asked c =
    record { is = λ st k b u r lo hi a otherwise. rw (asked, layout_is c.layout_of.ensures c.in-Failed.is st k b) refl }

pub returns-in-Concrete-clause-asked : goal.returns-in-Concrete-clause-asked
returns-in-Concrete-clause-asked c = search (ok_answers, rules)
