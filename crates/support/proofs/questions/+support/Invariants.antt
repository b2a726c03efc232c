-- Each step of support takes an earlier type or a smaller usage: the measure is the type and the nodes of the usage, and the
-- functions that hand both on come in the order of their calls. What is remembered stays true on the way.
use Prim.Native.Nat.{◌+◌, ◌-◌}
use Rattle.record_links.specs.Rows.{chain}
use Rattle.support_cache.proofs.Linked.{Linked}
use Rattle.support.proofs.Components.{AskedFrom}
use Rattle.support.proofs.Entries.{Walked}
use Rattle.support.proofs.Remembering.{Turned}
use Rattle.support.proofs.Measure.{together}
use Rattle.support.proofs.questions.+support.Given as goal

abbrev pub decreases-any_component_supports : goal.decreases-any_component_supports
decreases-any_component_supports l = together l.ty l.s.now l.q

abbrev pub decreases-elements_supported : goal.decreases-elements_supported
decreases-elements_supported l = together l.array.elem l.s.now l.q

abbrev pub decreases-entries_supported : goal.decreases-entries_supported
decreases-entries_supported l = together l.ty l.s.now l.q

abbrev pub decreases-entry_supported : goal.decreases-entry_supported
decreases-entry_supported l = together l.ty l.s.now l.e + 5

abbrev pub decreases-itself_supports : goal.decreases-itself_supports
decreases-itself_supports l = together l.ty l.s.now l.q + 1

abbrev pub decreases-supports_inside : goal.decreases-supports_inside
decreases-supports_inside l = together l.ty l.s.now l.q + 4

abbrev pub decreases-supports_or_recalls : goal.decreases-supports_or_recalls
decreases-supports_or_recalls l = together l.ty l.s.now l.q + 3

abbrev pub decreases-supports_past_tests : goal.decreases-supports_past_tests
decreases-supports_past_tests l = together l.ty l.s.now l.q + 2

abbrev pub invariant-any_component_supports-loop-component : goal.invariant-any_component_supports-loop-component
invariant-any_component_supports-loop-component l = record {
  asked : AskedFrom l.setting l.ty l.at l.initial.s l.q l.end l.from;
  turned : Turned l.setting l.initial.s l.s l.initial.cached l.cached;
}

abbrev pub decreases-any_component_supports-loop-component : goal.decreases-any_component_supports-loop-component
decreases-any_component_supports-loop-component l = 18446744073709551616 - l.from

abbrev pub invariant-entries_supported-loop-e : goal.invariant-entries_supported-loop-e
invariant-entries_supported-loop-e l = record {
  linked : Linked l.initial.s l.q l.e;
  walked : Walked l.setting l.ty l.at l.initial.s l.q l.e;
  turned : Turned l.setting l.initial.s l.s l.initial.cached l.cached;
}

abbrev pub decreases-entries_supported-loop-e : goal.decreases-entries_supported-loop-e
decreases-entries_supported-loop-e l = chain 65536 l.initial.s l.e
