-- `place_search::found` meets its contract: the entries up to `to` are below, those up to the cut's `low`, and where that is 0 those up to
-- `from`.
use Rattle.std.proofs.Common.{◌≡◌, refl}
use Rattle.records.specs.Records.{next_in}
use Rattle.place_search.specs.Cutting.{Between}
use Rattle.place_search.proofs.found.Goals.{Joined-cut-eq0, then-cut-eq0, else-cut-eq0}
use Rattle.place_search.proofs.found.Goals as goal

from_start : (c : Joined-cut-eq0) → c.args.cut.low ≡ 0 → (c.if-cut-eq0.to.low ≡ c.args.from.low) × (c.if-cut-eq0.to.next ≡ c.args.from.next)
from_start c z = elim c.if-cut-eq0.branch [ then-cut-eq0 w ↦ (cc, cc) | else-cut-eq0 w ↦ absurd (w.if-cut-eq0.false z) ]

from_low : (c : Joined-cut-eq0) → (c.args.cut.low ≡ 0 → ⊥)
    → (c.if-cut-eq0.to.low ≡ c.args.cut.low) × (c.if-cut-eq0.to.next ≡ next_in c.args.s.now c.args.cut.low)
from_low c some = elim c.if-cut-eq0.branch [ then-cut-eq0 w ↦ absurd (some w.if-cut-eq0.true) | else-cut-eq0 w ↦ (cc, cc) ]

behind_to : (c : Joined-cut-eq0) → Between c.args.s.now c.if-cut-eq0.to.next c.args.cut.above
behind_to c = elim c.if-cut-eq0.branch [
  | then-cut-eq0 w ↦ rw (from_start c w.if-cut-eq0.true).1 (c.requires.none w.if-cut-eq0.true)
  | else-cut-eq0 w ↦ rw (from_low c w.if-cut-eq0.false).1 (c.requires.one w.if-cut-eq0.false).1
]

pub any_past-requires : goal.any_past-requires
any_past-requires c = behind_to c

pub returns-then-any_past : goal.returns-then-any_past
returns-then-any_past c =
    let joined = (goal.at.returns-then-any_past c).Joined-cut-eq0 in
    record { none = from_start joined; one = from_low joined; above = refl; past = c.if-any_past.ensures }

pub returns : goal.returns
returns c =
    let joined = (goal.at.returns c).Joined-cut-eq0 in
    record { none = from_start joined; one = from_low joined; above = refl; past = c.if-any_past.ensures }
