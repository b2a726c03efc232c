-- What the strict lookup changes: what an array contains at its length, and nothing else. So a type supports no more by it.
-- Assumes nothing.
use Prim.Native.Nat.{ℕ, zero, suc, ◌+◌, ◌/◌, ◌%◌, ◌<◌}
use mathlib.Core.Path.{◌≡◌, refl, sym, ◌∙◌}
use mathlib.Core.Bool.{Bool, true, false, ◌&&◌, ◌||◌}
use mathlib.Core.List.{List, [], ◌∷◌}
use mathlib.Core.Option.{Option, none as nothing, some}
use native.Mathlib.Omega.{arith}
use lib.Dec.{ltb, leb, eqb}
use borrow.Author.Tests.{le-ltb, eq-eqb, ne_eqb}
use Rattle.definitions.specs.If.{when◌then◌else◌}
use Rattle.definitions.specs.Limits.{max32}
use Rattle.definitions.specs.Usage.{Usage, unused, leaf, map, array, Entries, none, entry, size, nodes}
use Rattle.definitions.specs.Table.{Table, Field, Components, scalar, elements, fields, TypeLayout, concrete, handle, failed, Setting, layout_of, fixed_size}
use Rattle.definitions.specs.Containment.{Inside, at_length, element_size, in_element, in_fields, containing}
use Rattle.definitions.specs.Support.{Asking, any_of, supports_in, supports, support_rules, entry_supported, entries_supported, itself, same_length, is_unused, is_leaf_of, outside}
use Rattle.definitions.specs.Requests.Choices.{Choices, rust}
use Rattle.definitions.proofs.Choice.{by_test}

-- the range starts at the index that is the array's length, one past its last element
abbrev pub StartsAtLength : Components → ℕ → Type 0
StartsAtLength scalar s = ⊥
StartsAtLength (elements stride ty len) s = (0 < len) × (s / stride ≡ len)
StartsAtLength (fields fs) s = ⊥

-- the Rust's choices are document 01's lookup
pub rust_at_length : at_length rust ≡ some 0
unfolding when◌then◌else◌
rust_at_length = refl

element_at_length : (ch : Choices) (n len i : ℕ) → 0 < len → i ≡ len → element_size ch n len i ≡ at_length ch
unfolding when◌then◌else◌
element_at_length ch n zero i h e = absurd (omega (arith, h))
element_at_length ch n (suc len) i h e = rw (le-ltb i (suc len) (omega (arith, e)), eq-eqb i (suc len) e)

-- there the strict lookup finds nothing
pub strict_at_length : (st : Setting) (cs : Components) (s e : ℕ) → st.choices.strict_lookup ≡ true → StartsAtLength cs s → containing st cs s e ≡ []
unfolding when◌then◌else◌
strict_at_length st scalar s e strict at = absurd at
strict_at_length st (elements stride ty len) s e strict at =
    rw (element_at_length st.choices (fixed_size (layout_of st.table ty)) len (s / stride) at.0 at.1, strict) refl
strict_at_length st (fields fs) s e strict at = absurd at

-- anywhere else no choice matters

size_elsewhere : (ch ch' : Choices) (n len i : ℕ) → ((0 < len) × (i ≡ len) → ⊥) → element_size ch n len i ≡ element_size ch' n len i
unfolding when◌then◌else◌
size_elsewhere ch ch' n zero i h = refl
size_elsewhere ch ch' n (suc len) i h = rw (ne_eqb i (suc len) λ e. h (omega arith, e)) refl

fields_alike : (t : Table) (ch ch' : Choices) (fs : List Field) (s e : ℕ)
    → in_fields (record { table = t; choices = ch }) fs s e ≡ in_fields (record { table = t; choices = ch' }) fs s e
fields_alike t ch ch' [] s e = refl
fields_alike t ch ch' (f ∷ fs) s e = rw (fields_alike t ch ch' fs s e) refl

pub lookup_elsewhere : (t : Table) (ch ch' : Choices) (cs : Components) (s e : ℕ) → (StartsAtLength cs s → ⊥)
    → containing (record { table = t; choices = ch }) cs s e ≡ containing (record { table = t; choices = ch' }) cs s e
lookup_elsewhere t ch ch' scalar s e h = refl
lookup_elsewhere t ch ch' (elements stride ty len) s e h = rw (size_elsewhere ch ch' (fixed_size (layout_of t ty)) len (s / stride) h) refl
lookup_elsewhere t ch ch' (fields fs) s e h = fields_alike t ch ch' fs s e

-- What a type supports under choices, it supports under choices that are no stricter.

-- c says yes only where d does
abbrev Less : Bool → Bool → Type 0
Less c d = c ≡ true → d ≡ true

and_less : (a b c d : Bool) → Less a b → Less c d → Less (a && c) (b && d)
and_less true b c d h k e = rw (h refl) (k e)
and_less false b c d h k e = cc e

guarded_less : (t a b : Bool) → Less a b → Less (t && a) (t && b)
guarded_less t a b h = and_less t t a b (λ x. x) h

or_less : (a b c d : Bool) → Less a b → Less c d → Less (a || c) (b || d)
or_less true b c d h k e = rw (h refl) refl
or_less false true c d h k e = refl
or_less false false c d h k e = k e

guard_less : (a b c d : Bool) → Less a b → Less c d → Less (when a then true else c) (when b then true else d)
unfolding when◌then◌else◌
guard_less true b c d h k e = rw (h refl) refl
guard_less false true c d h k e = refl
guard_less false false c d h k e = k e

module _ (t : Table) (ch ch' : Choices) (looser : ch'.strict_lookup ≡ true → ch.strict_lookup ≡ true) where
  abbrev tight : Setting
  tight = record { table = t; choices = ch }

  abbrev loose : Setting
  loose = record { table = t; choices = ch' }

  module _ (f g : Asking) (less : (ty s : ℕ) (u : Usage) → Less (f ty s u) (g ty s u)) where
    any_less : (cs : List Inside) (u : Usage) → Less (any_of f cs u) (any_of g cs u)
    any_less [] u = λ x. x
    any_less (c ∷ cs) u = or_less _ _ _ _ (less c.type c.rest u) (any_less cs u)

    -- what is answered of an element that reaches n far, if it reaches anywhere
    abbrev within : Asking → Inside → ℕ → ℕ → Usage → Option ℕ → Bool
    within ask c start e u n = any_of ask (in_element c start e n) u

    within_less : (c : Inside) (start e : ℕ) (u : Usage) (n : Option ℕ) → Less (within f c start e u n) (within g c start e u n)
    within_less c start e u n = any_less (in_element c start e n) u

    element_less : (c : Inside) (start e n len i : ℕ) (u : Usage)
        → Less (within f c start e u (element_size ch n len i)) (within g c start e u (element_size ch' n len i))
    unfolding when◌then◌else◌
    element_less c start e n zero i u = within_less c start e u (some n)
    element_less c start e n (suc len) i u = go (ltb i (suc len)) (eqb i (suc len))
      where
        at : (s s' : Bool) → (s' ≡ true → s ≡ true)
            → Less (within f c start e u (when s then nothing else some 0)) (within g c start e u (when s' then nothing else some 0))
        at true s' h = λ x. cc x
        at false true h = cc (h refl)
        at false false h = within_less c start e u (some 0)

        go : (x y : Bool) → Less (within f c start e u (when x then some n else when y then at_length ch else nothing))
            (within g c start e u (when x then some n else when y then at_length ch' else nothing))
        go true y = within_less c start e u (some n)
        go false true = at ch.strict_lookup ch'.strict_lookup looser
        go false false = λ x. x

    containing_less : (cs : Components) (s e : ℕ) (u : Usage) → Less (any_of f (containing tight cs s e) u) (any_of g (containing loose cs s e) u)
    containing_less scalar s e u = λ x. x
    containing_less (elements stride ty len) s e u = element_less _ _ e (fixed_size (layout_of t ty)) len (s / stride) u
    containing_less (fields fs) s e u = rw (fields_alike t ch ch' fs s e) (any_less _ u)

    entry_less : (ty : ℕ) (cs : Components) (s : ℕ) (u : Usage) → Less (entry_supported tight f ty cs s u) (entry_supported loose g ty cs s u)
    entry_less ty cs zero u = less ty 0 u
    entry_less ty cs (suc s) u = guarded_less (leb (suc s) max32) _ _ (containing_less cs (suc s) _ u)

    entries_less : (ty : ℕ) (cs : Components) (s : ℕ) (es : Entries) → Less (entries_supported tight f ty cs s es) (entries_supported loose g ty cs s es)
    entries_less ty cs s none = λ x. x
    entries_less ty cs s (entry o u es) = and_less _ _ _ _ (entry_less ty cs (s + o) u) (entries_less ty cs s es)

    itself_less : (ty : ℕ) (cs : Components) (s : ℕ) (u : Usage) → Less (itself tight f ty cs s u) (itself loose g ty cs s u)
    itself_less ty cs s (unused z) = λ x. x
    itself_less ty cs s (leaf z k ty') = λ x. x
    itself_less ty cs s (map z es) = entries_less ty cs s es
    itself_less ty scalar s (array z n e) = λ x. x
    itself_less ty (fields fs) s (array z n e) = λ x. x
    itself_less ty (elements stride c len) s (array z n e) =
        guarded_less (eqb stride n) _ _ (guarded_less (eqb (s % n) 0) _ _ (guarded_less (same_length n len s z) _ _ (less c 0 e)))

    rules_less : (ty : ℕ) (l : TypeLayout) (s : ℕ) (u : Usage) → Less (support_rules tight f ty l s u) (support_rules loose g ty l s u)
    rules_less ty handle s u = λ x. x
    rules_less ty failed s u = λ x. x
    rules_less ty (concrete n d cs) s u =
        by_test Less (is_unused u) (λ x. x) (by_test Less (eqb s 0 && is_leaf_of ty u) (λ x. x) (by_test Less (eqb d 0 && outside n s (size u)) (λ x. x)
        (guard_less _ _ _ _ (containing_less cs s _ u) (itself_less ty cs s u))))

  fuel_less : (k ty s : ℕ) (u : Usage) → Less (supports_in tight k ty s u) (supports_in loose k ty s u)
  unfolding supports_in
  fuel_less zero ty s u = λ x. x
  fuel_less (suc k) ty s u = rules_less (supports_in tight k) (supports_in loose k) (fuel_less k) ty (layout_of t ty) s u

  pub supports_less : (ty s : ℕ) (u : Usage) → supports tight ty s u ≡ true → supports loose ty s u ≡ true
  unfolding supports
  supports_less ty s u = fuel_less (ty + nodes u) ty s u

-- so the lookup is all that support takes of the choices
pub supports_alike : (t : Table) (ch ch' : Choices) → ch.strict_lookup ≡ ch'.strict_lookup → (ty s : ℕ) (u : Usage)
    → supports (record { table = t; choices = ch }) ty s u ≡ supports (record { table = t; choices = ch' }) ty s u
supports_alike t ch ch' h ty s u = go _ _ (supports_less t ch ch' (λ x. h ∙ x) ty s u) (supports_less t ch' ch (λ x. sym h ∙ x) ty s u)
  where
    go : (c d : Bool) → Less c d → Less d c → c ≡ d
    go true d k l = cc (k refl)
    go false true k l = cc (l refl)
    go false false k l = refl
