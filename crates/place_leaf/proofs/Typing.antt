-- A leaf's record says its type, and b has one at 0 exactly if d is 0 and its command is a leaf's.
-- Assumes nothing.
use Prim.Native.Nat.{ℕ, zero, suc, ◌<◌, ◌≤◌}
use mathlib.Core.Path.{◌≡◌, refl, sym, ap, ◌∙◌}
use mathlib.Core.Bool.{Bool, true, false}
use mathlib.Core.List.{List}
use mathlib.Core.Logic.{◌⊎◌, ⊎_elim}
use mathlib.Core.Option.{none as nothing, some}
use Rattle.std.specs.Prelude.{Some, None}
use native.Mathlib.Omega.{arith}
use lib.ListN.{length}
use Rattle.definitions.specs.Usage.{Size, Usage, unused, leaf, map, array}
use Rattle.definitions.specs.Command.{head_of}
use Rattle.definitions.specs.Place.{type_at_zero}
use Rattle.qptr.specs.Values.{command_of, kind_of}
use Rattle.qptr.specs.declared.Kind.{Kind}
use Rattle.qptr.specs.declared.Kind.TheVariants.{Unused, StrictlyTyped, DirectAccess, OffsetBase, DynOffsetBase}
use Rattle.records.specs.Records.{command_in, argument_in}
use Rattle.record_links.specs.Standing.{Stands}
use Rattle.record_links.proofs.Stands.{stands_root}
use Rattle.qptr.specs.Choices.{choices_in}
use Rattle.layout.specs.Located.{Known}
use Rattle.layout.specs.declared.setting.Setting.{Setting as CodeSetting}
use Rattle.support_cache.proofs.Roots.{command_of_kind}
use Rattle.place_states.specs.Calls.{Two, Ready}
use Rattle.place_states.proofs.Roots.{left_command}
use Rattle.support.specs.Askable.{Askable}
use Rattle.place_leaf.specs.Leaves.{Typed, TypeAt}

pub data IsLeaf : Usage → Type 0 where
  is_leaf : (z : Size) (k : Bool) (t : ℕ) → IsLeaf (leaf z k t)

pub leaf_type : (z : Size) (k : Bool) (t : ℕ) (s : List ℕ) (q : ℕ) (r : ℕ → ℕ) (lo hi : ℕ) → Stands (leaf z k t) s q r lo hi → argument_in s q ≡ t
unfolding Stands
leaf_type z k t s q r lo hi h = h.1

module _ {k : ℕ} {s : List ℕ} {a b : ℕ} {r : ℕ → ℕ} {lo mid hi : ℕ} {t u : Usage} (two : Two k s a b r lo mid hi t u) where
  pub left_leaf : Typed (command_in s a) → IsLeaf t
  left_leaf T = go t (left_command two)
    where
      go : (u : Usage) → command_in s a ≡ (head_of u).command → IsLeaf u
      go (unused z) e = absurd (T.used e)
      go (leaf z k t) e = is_leaf z k t
      go (map z es) e = absurd (T.no_map e)
      go (array z n v) e = absurd (T.no_array e)

-- whether b has a type at 0

module _ {s : List ℕ} {q d : ℕ} where
  module _ {k : Kind} (first : d ≡ 0) (x : k ≡ kind_of (command_in s q)) where
    pub types_leaf : {t : ℕ} → (k ≡ StrictlyTyped) ⊎ (k ≡ DirectAccess) → t ≡ argument_in s q → TypeAt s q d (Some t)
    types_leaf {t} l f = rw first (record {
      is = λ u r lo hi h.
          let is : (v : Kind) → k ≡ v → command_in s q ≡ command_of v = command_of_kind u s q r lo hi h x in
          let leaf : (1 ≤ command_in s q) × (command_in s q ≤ 2) = ⊎_elim (λ e. (omega (arith, is StrictlyTyped e), omega (arith, is StrictlyTyped e))) (λ e. (omega (arith, is DirectAccess e), omega (arith, is DirectAccess e))) l in
          go u r lo hi h (stands_root u s q r lo hi h).command leaf.0 leaf.1;
    })
      where
        go : (u : Usage) (r : ℕ → ℕ) (lo hi : ℕ) → Stands u s q r lo hi → command_in s q ≡ (head_of u).command → 1 ≤ command_in s q → command_in s q ≤ 2 → type_at_zero 0 u ≡ some t
        go (unused z) r lo hi h e m n = absurd (omega arith)
        go (leaf z k t') r lo hi h e m n = ap some (sym (f ∙ leaf_type z k t' s q r lo hi h))
        go (map z es) r lo hi h e m n = absurd (omega arith)
        go (array z i v) r lo hi h e m n = absurd (omega arith)

    pub types_none : (k ≡ Unused) ⊎ ((k ≡ OffsetBase) ⊎ (k ≡ DynOffsetBase)) → TypeAt s q d None
    types_none n = rw first (record {
      is = λ u r lo hi h.
          let is : (v : Kind) → k ≡ v → command_in s q ≡ command_of v = command_of_kind u s q r lo hi h x in
          let apart : 1 ≤ command_in s q → command_in s q ≤ 2 → ⊥ =
          ⊎_elim (λ e m n. omega (arith, is Unused e)) (⊎_elim (λ e m n. omega (arith, is OffsetBase e)) (λ e m n. omega (arith, is DynOffsetBase e))) n in
          go u (stands_root u s q r lo hi h).command apart;
    })
      where
        go : (u : Usage) → command_in s q ≡ (head_of u).command → (1 ≤ command_in s q → command_in s q ≤ 2 → ⊥) → type_at_zero 0 u ≡ nothing
        go (unused z) e f = refl
        go (leaf z true t) e f = absurd (f (omega arith) (omega arith))
        go (leaf z false t) e f = absurd (f (omega arith) (omega arith))
        go (map z es) e f = refl
        go (array z n v) e f = refl

-- it is then a leaf of that type
pub data LeafOf (c : ℕ) : Usage → Type 0 where
  leaf_of : (z : Size) (k : Bool) → LeafOf c (leaf z k c)

pub typed_at : (d : ℕ) (u : Usage) {c : ℕ} → type_at_zero d u ≡ some c → LeafOf c u
typed_at (suc d) u e = let z : ◌≡◌ {A = ℕ} 0 1 = cc in absurd (omega arith)
typed_at zero (unused z) e = let z : ◌≡◌ {A = ℕ} 0 1 = cc in absurd (omega arith)
typed_at zero (leaf z k t) {c} e = let same : t ≡ c = cc in rw (← same) (leaf_of z k)
typed_at zero (map z es) e = let z : ◌≡◌ {A = ℕ} 0 1 = cc in absurd (omega arith)
typed_at zero (array z n v) e = let z : ◌≡◌ {A = ℕ} 0 1 = cc in absurd (omega arith)

-- what may be asked

module _ {code : CodeSetting} {s : List ℕ} {a b : ℕ} (R : Ready code s a b) where
  -- whatever is chosen
  known_with : {asked : CodeSetting} → asked.table ≡ code.table → Known asked (record { table = R.setting.table; choices = choices_in asked.choices })
  known_with same = record { read = rw same R.known.read; placed = rw same R.known.placed; chosen = refl }

  pub askable_right : {asked : CodeSetting} {ty : ℕ} → asked.table ≡ code.table → Typed (command_in s a) → ty ≡ argument_in s a → Askable asked ty s b
  askable_right {asked} {ty} same T e = record {
    type = record { setting = record { table = R.setting.table; choices = choices_in asked.choices }; known = known_with same; below = go (left_leaf R.two T) R.two };
    usage = record {
      usage = R.u;
      rank = R.r;
      lo = R.mid;
      hi = R.hi;
      stands = R.two.right;
      few = omega (arith, R.two.few);
      within = R.right_in;
      numbered = omega (arith, R.right_in, R.linkable);
    };
  }
    where
      go : {t : Usage} → IsLeaf t → Two (length R.setting.table) s a b R.r R.lo R.mid R.hi t R.u → ty < length R.setting.table
      go (is_leaf z k t) two = omega (arith, two.left_fits.1, leaf_type z k t s a R.r R.lo R.mid two.left)

  pub askable_left : {d c : ℕ} → TypeAt s b d (Some c) → Askable code c s a
  askable_left {d} {c} A = record {
    type = record {
      setting = R.setting;
      known = R.known;
      below = go (typed_at d R.u (A.is R.u R.r R.mid R.hi R.two.right)) R.two;
    };
    usage = record {
      usage = R.t;
      rank = R.r;
      lo = R.lo;
      hi = R.mid;
      stands = R.two.left;
      few = omega (arith, R.two.few);
      within = R.left_in;
      numbered = omega (arith, R.left_in, R.linkable);
    };
  }
    where
      go : {u : Usage} → LeafOf c u → Two (length R.setting.table) s a b R.r R.lo R.mid R.hi R.t u → c < length R.setting.table
      go (leaf_of z k) two = two.right_fits.1
