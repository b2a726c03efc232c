-- Each step of support takes an earlier type or a smaller usage: the measure is the type and the nodes of the usage, and the
-- functions that hand both on come in the order of their calls. What is remembered stays true on the way.
use borrow.Author.Rules.{rules}
use Prim.Native.Nat.{ℕ, zero, suc, ◌+◌, ◌<◌}
use borrow.Author.Tests.{ne_eqb, le-leb, lt-leb}
use mathlib.Core.Path.{◌≡◌, refl, ◌∙◌}
use mathlib.Core.Bool.{Bool, false}
use mathlib.Core.List.{List}
use lib.Dec.{eqb}
use native.Mathlib.Omega.{arith}
use Rattle.definitions.specs.Usage.{Usage}
use Rattle.definitions.specs.Table.{Setting, Components as Parts}
use Rattle.definitions.specs.Support.{Asking, entry_supported, supports}
use Rattle.records.specs.Records.{offset_in}
use Rattle.layout.specs.declared.setting.Setting.{Setting as CodeSetting}
use Rattle.layout.proofs.Uses.{component_below}
use Rattle.support_cache.specs.Nodes.{Child}
use Rattle.support_cache.proofs.Staying.{unchanged_both, next_stays}
use Rattle.support_cache.proofs.Linked.{nodes_stay, element_usage, element_smaller, first_linked, next_linked, chain_falls, entry_usage, entry_smaller, entry_child}
use Rattle.support.specs.Supported.{OfEach, InLayout, Says}
use Rattle.support.proofs.Types.{asks_earlier}
use Rattle.support.proofs.Components.{asked_first, one_asked, more_asked}
use Rattle.support.proofs.Entries.{walk_starts, walk_goes_on, walk_stops, walk_ends, asks_entry}
use Rattle.support.proofs.Elements.{other_stride, other_length, by_element}
use Rattle.support.proofs.Itself.{by_entries, not_by_leaf, not_by_others, by_elements}
use Rattle.support.proofs.Whole.{asks_either, not_parts, says_whole, whole_says, part_says, itself_says}
use Rattle.support.proofs.Staying.{supports_after, supports_before, entry_before, itself_before, open_after, asks_after, concrete_after}
use Rattle.support.proofs.Remembering.{turned_none, turned_more, kept_none, kept_both, memory_after, memory_part, type_few, recalled, remembered_kept}
use Rattle.support.proofs.questions.+support.Goals as goal

pub any_component_supports-loop-component-init : goal.any_component_supports-loop-component-init
any_component_supports-loop-component-init t c = record { asked = search (asked_first, rules); turned = turned_none }

pub any_component_supports-supports_inside-requires : goal.any_component_supports-supports_inside-requires
any_component_supports-supports_inside-requires t c =
    let T = c.loop-component.invariant.turned in
    let l = component_below c.find_components_containing.ensures c.in-Some.is in
    (omega (arith, nodes_stay T.kept.records c.requires.concrete_askable.asks.usage), (asks_after T.kept.records (asks_earlier c.requires.concrete_askable.asks l), (memory_after T.kept c.requires.cache_true, not_parts)))

pub any_component_supports-returns-then-supports_inside-clause-component_supports : goal.any_component_supports-returns-then-supports_inside-clause-component_supports
any_component_supports-returns-then-supports_inside-clause-component_supports t c =
    let I = c.loop-component.invariant in
    one_asked I.asked c.find_components_containing.ensures c.in-Some.is (supports_before I.turned.kept.records (whole_says c.supports_inside.ensures.says)) c.if-supports_inside.true

pub any_component_supports-loop-component-preserved : goal.any_component_supports-loop-component-preserved
any_component_supports-loop-component-preserved t c =
    let I = c.loop-component.invariant in
    record {
      asked = more_asked I.asked c.find_components_containing.ensures c.in-Some.is (supports_before I.turned.kept.records (whole_says c.supports_inside.ensures.says)) c.if-supports_inside.false;
      turned = turned_more I.turned c.supports_inside.ensures.kept (search rules);
    }

pub elements_supported-returns-then-stride-argument-clause-elements_supported : goal.elements_supported-returns-then-stride-argument-clause-elements_supported
elements_supported-returns-then-stride-argument-clause-elements_supported t c = other_stride c.argument.ensures c.if-stride-argument.true

pub elements_supported-returns-then-not-same_length-clause-elements_supported : goal.elements_supported-returns-then-not-same_length-clause-elements_supported
elements_supported-returns-then-not-same_length-clause-elements_supported t c =
    other_length c.argument.ensures c.if-stride-argument.false c.if-at-stride-ne0.false c.max_size.ensures c.same_length.ensures
    c.if-not-same_length.true

pub elements_supported-supports_inside-requires : goal.elements_supported-supports_inside-requires
elements_supported-supports_inside-requires t c =
    let w = c.requires.askable.usage in
    let k = c.requires.stride_nonzero.1 in
    let x = c.child-e.ensures in (omega (arith, element_smaller k w x), (record { type = c.requires.askable.type; usage = element_usage k w x }, (memory_part (Child.element k c.child-e.ensures.0) c.requires.cache_true, not_parts)))

pub elements_supported-returns-clause-elements_supported : goal.elements_supported-returns-clause-elements_supported
elements_supported-returns-clause-elements_supported t c =
    let x = c.argument.ensures in
    let same = c.if-stride-argument.false in
    let starts = c.if-at-stride-ne0.false in
    by_element x same starts c.max_size.ensures c.same_length.ensures c.if-not-same_length.false c.child-e.ensures
    (whole_says c.supports_inside.ensures.says)

pub entries_supported-loop-e-init : goal.entries_supported-loop-e-init
entries_supported-loop-e-init t c = record { linked = search (first_linked, rules); walked = search (walk_starts, rules); turned = turned_none }

pub entries_supported-entry_supported-requires : goal.entries_supported-entry_supported-requires
entries_supported-entry_supported-requires t c =
    let I = c.loop-e.invariant in
    let K = I.turned.kept in
    let ne = c.loop-e-test.true in (
      omega (arith, nodes_stay K.records (entry_usage I.linked ne), entry_smaller I.linked ne),
      (concrete_after K.records (asks_entry I.linked ne c.requires.concrete_askable), memory_after K (memory_part (entry_child I.linked ne c.requires.map) c.requires.cache_true)),
    )

pub entries_supported-returns-then-not-entry_supported-clause-entries_supported : goal.entries_supported-returns-then-not-entry_supported-clause-entries_supported
entries_supported-returns-then-not-entry_supported-clause-entries_supported t c =
    let I = c.loop-e.invariant in
    walk_stops I.walked c.loop-e-test.true (entry_before I.turned.kept.records c.entry_supported.ensures.entry_supported) c.if-not-entry_supported.true

pub entries_supported-next-e-requires : goal.entries_supported-next-e-requires
entries_supported-next-e-requires t c =
    let I = c.loop-e.invariant in
    let U = unchanged_both I.turned.kept.records c.entry_supported.ensures.kept.records in
    omega (arith, (entry_usage I.linked c.loop-e-test.true).within, U.len)

pub entries_supported-loop-e-smaller : goal.entries_supported-loop-e-smaller
entries_supported-loop-e-smaller t c =
    let I = c.loop-e.invariant in
    let U = unchanged_both I.turned.kept.records c.entry_supported.ensures.kept.records in
    chain_falls I.linked c.loop-e-test.true (c.next-e.ensures.0 ∙ next_stays U c.loop-e.e)

pub entries_supported-loop-e-preserved : goal.entries_supported-loop-e-preserved
entries_supported-loop-e-preserved t c =
    let I = c.loop-e.invariant in
    let ne = c.loop-e-test.true in
    let K = I.turned.kept in
    let x = c.next-e.ensures.0 ∙ next_stays (unchanged_both K.records c.entry_supported.ensures.kept.records) c.loop-e.e in
    record {
      linked = next_linked I.linked ne x c.next-e.ensures.1;
      walked = walk_goes_on I.walked ne (entry_before K.records c.entry_supported.ensures.entry_supported) x c.if-not-entry_supported.false;
      turned = turned_more I.turned c.entry_supported.ensures.kept (search rules);
    }

pub entries_supported-returns-clause-entries_supported : goal.entries_supported-returns-clause-entries_supported
entries_supported-returns-clause-entries_supported t c = walk_ends c.loop-e.invariant.walked (search rules)

pub itself_supports-returns-in-Unused : goal.itself_supports-returns-in-Unused
itself_supports-returns-in-Unused t c = record { itself_supports = search (not_by_leaf, rules); kept = kept_none }

pub itself_supports-returns-in-OffsetBase-clause-itself_supports : goal.itself_supports-returns-in-OffsetBase-clause-itself_supports
itself_supports-returns-in-OffsetBase-clause-itself_supports t c = search (by_entries, rules)

pub itself_supports-returns-in-Scalar : goal.itself_supports-returns-in-Scalar
itself_supports-returns-in-Scalar t c = record { itself_supports = search (not_by_others, rules); kept = kept_none }

pub itself_supports-returns-in-Elements-clause-itself_supports : goal.itself_supports-returns-in-Elements-clause-itself_supports
itself_supports-returns-in-Elements-clause-itself_supports t c = search (by_elements, rules)

pub supports_inside-supports_or_recalls-requires : goal.supports_inside-supports_or_recalls-requires
supports_inside-supports_or_recalls-requires t c =
    let left = c.in-None.ensures in
    (omega arith, (asks_either _ c.requires.askable left c.requires.concrete_askable, (c.requires.cache_true, left)))

pub supports_or_recalls-recall_whole-requires : goal.supports_or_recalls-recall_whole-requires
supports_or_recalls-recall_whole-requires t c =
    let p = c.requires.concrete_askable.asks in
    (type_few p.type, p.usage.numbered, omega (arith, p.usage.within))

pub supports_or_recalls-returns-in-Some-clause-says : goal.supports_or_recalls-returns-in-Some-clause-says
supports_or_recalls-returns-in-Some-clause-says t c =
    let told = c.in-Some.ensures in
    says_whole told.0 (recalled c.requires.cache_true (type_few c.requires.concrete_askable.asks.type) told.1)

pub supports_or_recalls-remember-requires : goal.supports_or_recalls-remember-requires
supports_or_recalls-remember-requires t c =
    let p = c.requires.concrete_askable.asks in
    (type_few p.type, p.usage.numbered, omega (arith, p.usage.within))

pub supports_or_recalls-returns-clause-kept : goal.supports_or_recalls-returns-clause-kept
supports_or_recalls-returns-clause-kept t c =
    let past = c.supports_past_tests-yes.ensures in
    kept_both past.kept (remembered_kept c.remember.ensures (search rules) (supports_after past.kept.records (past.says.layout c.if-not-whole.false)))

pub supports_past_tests-itself_supports-requires : goal.supports_past_tests-itself_supports-requires
supports_past_tests-itself_supports-requires t c =
    let K = c.any_component_supports.ensures.kept in
    let left = open_after K.records (c.requires.left_open c.if-whole.true) in
    (omega (arith, nodes_stay K.records c.requires.concrete_askable.asks.usage), (concrete_after K.records c.requires.concrete_askable, (memory_after K c.requires.cache_true, left.used)))

pub supports_past_tests-returns-then-any_component_supports-clause-says : goal.supports_past_tests-returns-then-any_component_supports-clause-says
supports_past_tests-returns-then-any_component_supports-clause-says t c =
    part_says c.requires.left_open c.any_component_supports.ensures.component_supports c.if-any_component_supports.true

pub supports_past_tests-returns-then-whole-clause-says : goal.supports_past_tests-returns-then-whole-clause-says
supports_past_tests-returns-then-whole-clause-says t c =
    itself_says c.requires.left_open c.any_component_supports.ensures.component_supports c.if-any_component_supports.false c.if-whole.true (itself_before c.any_component_supports.ensures.kept.records c.itself_supports.ensures.itself_supports)

-- an entry's sum past 32 bits is no offset, and any other asks of the whole layout at 0, else of its components

past_32 : (st : Setting) (ask : Asking) (ty : ℕ) (cs : Parts) (n : ℕ) (u : Usage) → (n < 4294967296 → ⊥) → false ≡ entry_supported st ask ty cs n u
past_32 st ask ty cs zero u h = absurd (h (omega arith))
past_32 st ask ty cs (suc m) u h = rw (lt-leb (suc m) 4294967295 (omega (arith, h))) refl

module _ {code : CodeSetting} {ty : ℕ} {s : List ℕ} {q : ℕ} {v : Bool} where
  by_sum : (n : ℕ) → n < 4294967296 → Says code ty n s q (eqb n 0) v →
      InLayout code ty λ st cs. OfEach s q λ u. v ≡ entry_supported st (supports st) ty cs n u
  by_sum zero l S st k b n d cs i u r lo hi a = (S.layout refl).is st k b u r lo hi a
  by_sum (suc m) l S st k b n d cs i u r lo hi a =
      rw (le-leb (suc m) 4294967295 (omega (arith, l))) ((S.components (ne_eqb (suc m) 0 (omega arith))).is st k b n d cs i u r lo hi a)

pub entry_supported-returns-in_default-clause-entry_supported : goal.entry_supported-returns-in_default-clause-entry_supported
entry_supported-returns-in_default-clause-entry_supported t c = record {
  is = λ st k b n d cs i u r lo hi a.
      past_32 st (supports st) c.args.ty cs (c.args.at + offset_in c.args.s.now c.args.e) u (rw (← c.offset.ensures) c.in_default.ensures);
}

pub entry_supported-returns-clause-entry_supported : goal.entry_supported-returns-clause-entry_supported
entry_supported-returns-clause-entry_supported t c =
    let sum = c.in-Some.ensures in
    let S = c.supports_inside.ensures.says in
    record {
      is = λ st k b n d cs i u r lo hi a. rw (← c.offset.ensures, ← sum.1) (by_sum c.in-Some.sum (rw sum.1 sum.0) S st k b n d cs i u r lo hi a);
    }
