-- Each answer of a type is the first of its rules that the tests before it leave.
-- Assumes nothing.
use Prim.Native.Nat.{ℕ, ◌<◌}
use mathlib.Core.Path.{◌≡◌, refl, ap, sym, ◌∙◌}
use mathlib.Core.Bool.{Bool, true, false, ◌&&◌, ◌||◌}
use mathlib.Core.List.{List}
use lib.Dec.{eqb}
use lib.ListN.{length}
use Rattle.definitions.specs.If.{when◌then◌else◌}
use Rattle.definitions.specs.Usage.{Size, Usage, size}
use Rattle.definitions.specs.Table.{Setting, TypeLayout as Layout, concrete, handle, failed, layout_of, is_concrete}
use Rattle.definitions.specs.Support.{Asking, outside, component_supports, itself, support_rules, supports}
use Rattle.records.specs.Records.{command_in, size_in}
use Rattle.record_links.specs.Standing.{Stands}
use Rattle.layout.specs.Values.{parts_of, layout_in}
use Rattle.layout.specs.Located.{Known, LayoutIs}
use Rattle.layout.specs.declared.table.Components.{Components}
use Rattle.layout.specs.declared.table.TypeLayout.{TypeLayout}
use Rattle.layout.specs.declared.table.TypeLayout.TheVariants.{Concrete, Handle, Failed}
use Rattle.qptr.specs.Values.{kind_of}
use Rattle.qptr.specs.declared.Kind.{Kind}
use Rattle.qptr.specs.declared.Kind.TheVariants.{Unused}
use Rattle.qptr.specs.contracts.Kind.{the_type}
use denote.Enum.Bare.{sameb, same_true, same_false}
use Rattle.std.proofs.Common.{rules}
use Rattle.support.specs.Askable.{Askable}
use Rattle.layout.specs.declared.setting.Setting.{Setting as CodeSetting}
use Rattle.std.proofs.lemmas.Bool.{both_ways}
use Rattle.support.specs.Supported.{WholeLeaf, Supports, ComponentSupports, ItselfSupports}
use Rattle.support.specs.Cache.{LeftOpen}
use Rattle.support_cache.proofs.Roots.{size_is, command_is}
use Rattle.support.proofs.Leaves.{unused_is, used-is}
use Rattle.support.proofs.Types.{one_step, layout_is, components_of}

either_or : (c b : Bool) → (when c then true else b) ≡ (c || b)
unfolding when◌then◌else◌
either_or true b = refl
either_or false b = refl

-- what is not concrete supports nothing

no_rules : (st : Setting) (ask : Asking) (ty : ℕ) (l : Layout) (at : ℕ) (u : Usage) → is_concrete l ≡ false → false ≡ support_rules st ask ty l at u
no_rules st ask ty (concrete n d cs) at u h = absurd (both_ways _ h refl)
no_rules st ask ty handle at u h = refl
no_rules st ask ty failed at u h = refl

other_layout : (b : List ℕ) (r : TypeLayout) → ((n d : ℕ) (cs : Components) → r ≡ Concrete n d cs → ⊥) → is_concrete (layout_in b r) ≡ false
other_layout b (Concrete n d cs) h = absurd (h n d cs refl)
other_layout b Handle h = refl
other_layout b Failed h = refl

module _ {code : CodeSetting} {ty at : ℕ} {s : List ℕ} {q : ℕ} {r : TypeLayout} (l : LayoutIs code.table ty r) where
  pub not_concrete : ((n d : ℕ) (cs : Components) → r ≡ Concrete n d cs → ⊥) → Supports code ty at s q false
  not_concrete h = record {
    is = λ st k b u _ lo hi a.
        rw (one_step st k ty at u, layout_is l refl st k b) (no_rules st (supports st) ty (layout_in code.table.bytes.now r) at u (other_layout code.table.bytes.now r h));
  }

  module _ {n d : ℕ} {cs : Components} (y : r ≡ Concrete n d cs) where
    by_rules : {v : Bool} →
        ((st : Setting) → Known code st → ty < length st.table → layout_of st.table ty ≡ concrete n d (parts_of code.table.bytes.now cs) →
        (u : Usage) (r : ℕ → ℕ) (lo hi : ℕ) → Stands u s q r lo hi → v ≡ support_rules st (supports st) ty (concrete n d (parts_of code.table.bytes.now cs)) at u) →
        Supports code ty at s q v
    by_rules f = record {
      is = λ st k b u r lo hi a. let e = layout_is l y st k b in rw (one_step st k ty at u, e) (f st k b e u r lo hi a);
    }

    module _ {k : Kind} {z : Bool} (w : Askable code ty s q) (x : k ≡ kind_of (command_in s q)) (tested : z ≡ sameb the_type k Unused) where
      pub unused_supported : z ≡ true → Supports code ty at s q true
      unfolding when◌then◌else◌
      unused_supported t =
          let same : k ≡ Unused = same_true the_type (search rules) k Unused (sym tested ∙ t) in
          by_rules λ st k b e u r lo hi a. rw (unused_is u s q r lo hi a (command_is w.usage x Unused same))

      module _ {v : Bool} (other : z ≡ false) (leaf : WholeLeaf ty at s q v) where
        used : command_in s q ≡ 0 → ⊥
        used e = same_false the_type k Unused (sym tested ∙ other) (x ∙ ap kind_of e)

        pub leaf_supported : v ≡ true → Supports code ty at s q true
        unfolding when◌then◌else◌
        leaf_supported t = by_rules λ st k b e u r lo hi a. rw (used-is u s q r lo hi a used, ← leaf.is u r lo hi a, t)

        module _ {g : Bool} {m : Size} (t : v ≡ false) (here : m ≡ size_in s q) (large : g ≡ (eqb d 0 && outside n at m)) where
          large_is : (u : Usage) (r : ℕ → ℕ) (lo hi : ℕ) → Stands u s q r lo hi → (eqb d 0 && outside n at (size u)) ≡ g
          large_is u r lo hi a = sym (large ∙ ap (λ (m : Size). eqb d 0 && outside n at m) (here ∙ size_is u s q r lo hi a))

          pub large_refused : g ≡ true → Supports code ty at s q false
          unfolding when◌then◌else◌
          large_refused f = by_rules λ st k b e u r lo hi a. rw (used-is u s q r lo hi a used, ← leaf.is u r lo hi a, t, large_is u r lo hi a, f)

          pub left_open : g ≡ false → LeftOpen code ty at s q
          unfolding when◌then◌else◌
          left_open f = record {
            used = used;
            parts = cs;
            components = components_of l y;
            is = λ st k b u r lo hi a.
                rw (one_step st k ty at u, layout_is l y st k b, used-is u s q r lo hi a used, ← leaf.is u r lo hi a, t, large_is u r lo hi a, f)
                (either_or (component_supports st (supports st) (parts_of code.table.bytes.now cs) at u) _);
          }

-- and then the components are asked, and the usage itself

module _ {code : CodeSetting} {ty at : ℕ} {s : List ℕ} {q : ℕ} {h : Bool}
    (w : LeftOpen code ty at s q) (parts : ComponentSupports code ty at s q h) where
  parts_say : (st : Setting) → Known code st → ty < length st.table → (u : Usage) (r : ℕ → ℕ) (lo hi : ℕ) → Stands u s q r lo hi →
      supports st ty at u ≡ (h || itself st (supports st) ty (parts_of code.table.bytes.now w.parts) at u)
  parts_say st k b u r lo hi a =
      let p = w.components in
      rw (w.is st k b u r lo hi a, ← parts.is st k b p.size p.stride (parts_of code.table.bytes.now w.parts) (layout_is p.is refl st k b) u r lo hi a)

  pub part_supported : h ≡ true → Supports code ty at s q true
  part_supported e = record { is = λ st k b u r lo hi a. rw (parts_say st k b u r lo hi a, e) }

  pub itself_asked : {i : Bool} → h ≡ false → ItselfSupports code ty at s q i → Supports code ty at s q i
  itself_asked e self = record {
    is = λ st k b u r lo hi a.
        let p = w.components in
        rw (parts_say st k b u r lo hi a, e) (self.is st k b p.size p.stride (parts_of code.table.bytes.now w.parts) (layout_is p.is refl st k b) u r lo hi a);
  }
