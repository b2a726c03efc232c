-- A record's own rules, by its command: they are those of whichever usage stands there.
-- Assumes nothing.
use Prim.Native.Nat.{ℕ, suc, ◌+◌, ◌*◌, ◌≤◌}
use mathlib.Core.Path.{◌≡◌, refl, sym, ap, ◌∙◌}
use mathlib.Core.Bool.{Bool, true, false}
use mathlib.Core.Logic.{◌⊎◌, inl, inr}
use mathlib.Core.List.{List}
use native.Mathlib.Omega.{arith}
use native.Mathlib.Numerals.{add-one}
use lib.ListN.{length}
use Rattle.qptr.specs.declared.Kind.{Kind}
use Rattle.qptr.specs.declared.Kind.TheVariants.{Unused, StrictlyTyped, DirectAccess, OffsetBase, DynOffsetBase}
use Rattle.qptr.specs.Values.{command_of, kind_of}
use Rattle.qptr.proofs.Nodes.{kind_head}
use Rattle.qptr.proofs.Usages.{is_map, is_array}
use Rattle.definitions.specs.Usage.{Size, fixed, Usage, unused, leaf, map, array, Entries, size, nodes}
use Rattle.definitions.specs.Command.{head_of}
use Rattle.definitions.specs.Place.{past32, ◌≤ˢ◌}
use Rattle.definitions.proofs.Nodes.{some_node}
use Rattle.records.specs.Records.{command_in, size_in, argument_in}
use Rattle.records.specs.Usages.{At}
use Rattle.records.proofs.Usages.{root_of}
use Rattle.soundness.specs.Own.{following, fills, own}
use Rattle.soundness.specs.Preorder.{UsageFrom, EntriesFrom, Counted, Chained, Owned}
use Rattle.soundness.proofs.Entries.{counted_nodes}

-- a record's kind tells the command of whichever usage stands there
command_of_root : (s : List ℕ) (q : ℕ) (k : Kind) → k ≡ kind_of (command_in s q) → {other : Kind} → k ≡ other → (u : Usage) (o : ℕ) → At u s q o → (head_of u).command ≡ command_of other
command_of_root s q k e same u o r = kind_head k u (e ∙ ap kind_of (root_of u s q o r).1.command) ∙ ap command_of same

-- what a map and an array hold stands from the next record on

module _ (s : List ℕ) (q : ℕ) (k : Kind) (kind_is : k ≡ kind_of (command_in s q)) (S : UsageFrom s q) where
  pub map_row : (end : ℕ) → k ≡ OffsetBase → Counted s q end → EntriesFrom s (q + 1) end
  unfolding At
  map_row end e C =
      let m = is_map S.usage (command_of_root s q k kind_is e S.usage S.offset S.stands) in
      let r : At (map m.size m.entries) s q S.offset = rw m.same at S.stands in
      record { entries = m.entries; stand = rw add-one r.1; upto = omega (arith, counted_nodes (map m.size m.entries) S.offset r C); inside = C.inside; few = C.few }

  pub array_room : k ≡ DynOffsetBase → (q + 1) * 32 + 32 ≤ length s
  array_room e =
      let m = is_array S.usage (command_of_root s q k kind_is e S.usage S.offset S.stands) in
      omega (arith, some_node m.element, ap nodes m.same)

-- the own rules, once the size is tested

unused_keeps : (u : Usage) → (head_of u).command ≡ 0 → past32 (size u) ≡ false → own u ≡ true
unfolding own
unused_keeps (unused z) e h = rw h
unused_keeps (leaf z true t) e h = absurd (omega arith)
unused_keeps (leaf z false t) e h = absurd (omega arith)
unused_keeps (map z es) e h = absurd (omega arith)
unused_keeps (array z n e) e' h = absurd (omega arith)

empty_breaks : (u : Usage) → ((head_of u).command ≡ 0 → ⊥) → past32 (size u) ≡ false → (fixed 1 ≤ˢ size u) ≡ false → own u ≡ false
unfolding own
empty_breaks (unused z) n h f = absurd (n refl)
empty_breaks (leaf z k t) n h f = rw (h, f)
empty_breaks (map z es) n h f = rw (h, f)
empty_breaks (array z m e) n h f = rw (h, f)

leaf_keeps : (u : Usage) → 1 ≤ (head_of u).command → (head_of u).command ≤ 2 → past32 (size u) ≡ false → own u ≡ (fixed 1 ≤ˢ size u)
unfolding own
leaf_keeps (unused z) some few h = absurd (omega arith)
leaf_keeps (leaf z k t) some few h = rw h
leaf_keeps (map z es) some few h = absurd (omega arith)
leaf_keeps (array z m e) some few h = absurd (omega arith)

module _ (z : Size) (h : past32 z ≡ false) (f : (fixed 1 ≤ˢ z) ≡ true) where
  map_keeps : (es : Entries) → own (map z es) ≡ following (fixed 0) z es
  unfolding own
  map_keeps es = rw (h, f)

  array_keeps : (n : ℕ) (e : Usage) → own (array z n e) ≡ fills n (size e)
  unfolding own
  array_keeps n e = rw (h, f)

-- the answers, of whichever usage stands there

module _ (s : List ℕ) (q : ℕ) (k : Kind) (y : Size) (kind_is : k ≡ kind_of (command_in s q)) (size_is : y ≡ size_in s q) where
  size_at_lem : (u : Usage) (o : ℕ) → At u s q o → y ≡ size u
  size_at_lem u o r = size_is ∙ (root_of u s q o r).1.size

  module _ (small : past32 y ≡ false) where
    pub own_unused : k ≡ Unused → Owned s q true
    own_unused e = record { of = λ u o r. sym (unused_keeps u (command_of_root s q k kind_is e u o r) (rw (size_at_lem u o r) at small)) }

    module _ (some : Bool) (some_is : some ≡ (fixed 1 ≤ˢ y)) where
      pub own_empty : (k ≡ Unused → ⊥) → some ≡ false → Owned s q some
      own_empty n f = record {
        of = λ u o r.
            let none = empty_breaks u (λ e. n (kind_is ∙ ap kind_of ((root_of u s q o r).1.command ∙ e))) (rw (size_at_lem u o r) at small) (rw (size_at_lem u o r) at (sym some_is ∙ f)) in
            rw (f, none) refl;
      }

      pub own_leaf : k ≡ StrictlyTyped ⊎ k ≡ DirectAccess → Owned s q some
      own_leaf typed = record {
        of = λ u o r.
            let is : (1 ≤ (head_of u).command) × ((head_of u).command ≤ 2) = elim typed [
              | inl e ↦ let h = command_of_root s q k kind_is e u o r in (omega arith, omega arith)
              | inr e ↦ let h = command_of_root s q k kind_is e u o r in (omega arith, omega arith)
            ] in
            some_is ∙ rw (size_at_lem u o r) (sym (leaf_keeps u is.0 is.1 (rw (size_at_lem u o r) at small)));
      }

      pub own_map : (end : ℕ) (b : Bool) → k ≡ OffsetBase → some ≡ true → Counted s q end → Chained s (q + 1) end y b → Owned s q b
      unfolding At
      own_map end b e f C K = record {
        of = λ u o r.
            let m = is_map u (command_of_root s q k kind_is e u o r) in
            let z : Size = m.size in
            let es : Entries = m.entries in
            let r' : At (map z es) s q o = rw m.same at r in
            let same_size : y ≡ z = size_at_lem (map z es) o r' in
            let answer : b ≡ following (fixed 0) y es = K.of es (rw add-one r'.1) (omega (arith, counted_nodes (map z es) o r' C)) in
            rw (m.same, map_keeps z (rw same_size at small) (rw same_size at (sym some_is ∙ f)) es) (answer ∙ ap (λ (x : Size). following (fixed 0) x es) same_size);
      }

      pub own_array : (n : ℕ) (z : Size) (b : Bool) → k ≡ DynOffsetBase → some ≡ true → n ≡ argument_in s q → z ≡ size_in s (q + 1) → b ≡ fills n z → Owned s q b
      unfolding At
      own_array n z b e f stride_is element-is h = record {
        of = λ u o r.
            let m = is_array u (command_of_root s q k kind_is e u o r) in
            let y' : Size = m.size in
            let n' : ℕ = m.stride in
            let v : Usage = m.element in
            let r' : At (array y' n' v) s q o = rw m.same at r in
            let same_size : y ≡ y' = size_at_lem (array y' n' v) o r' in
            let same-stride : n ≡ n' = stride_is ∙ r'.0.argument in
            let same-element : z ≡ size v = (rw add-one at element-is) ∙ (root_of v s (suc q) r'.1.0 r'.1.1).1.size in
            rw (m.same, array_keeps y' (rw same_size at small) (rw same_size at (sym some_is ∙ f)) n' v, ← same-stride, ← same-element) h;
      }
