-- A usage is a leaf if its record's kind is one of a leaf, and then its record has its type.
-- Assumes nothing.
use Rattle.std.proofs.Common.{◌≡◌, ℕ, ◌≤◌, true, false, eqb, ◌⊎◌, List, refl, ⊎_elim, arith, eq-eqb}
use mathlib.Core.Bool.{and-false}
use Rattle.definitions.specs.Usage.{Usage}
use Rattle.definitions.specs.Support.{is_unused, is_leaf_of}
use Rattle.qptr.specs.Values.{command_of, kind_of}
use Rattle.qptr.specs.declared.Kind.{Kind}
use Rattle.qptr.specs.declared.Kind.TheVariants.{Unused, StrictlyTyped, DirectAccess, OffsetBase, DynOffsetBase}
use Rattle.records.specs.Records.{command_in, argument_in}
use Rattle.record_links.specs.Standing.{Stands}
use Rattle.support.specs.Supported.{WholeLeaf}
use Rattle.support_cache.proofs.Roots.{by_kind, command_of_kind}

module _ (u : Usage) (s : List ℕ) (q : ℕ) (r : ℕ → ℕ) (lo hi : ℕ) (a : Stands u s q r lo hi) where
  pub unused_is : command_in s q ≡ 0 → is_unused u ≡ true
  unused_is y =
      by_kind (λ v. is_unused v ≡ true) s q r lo hi
      (λ z k b. refl) (λ z t ty k b. absurd (omega arith)) (λ z es k b. absurd (omega arith)) (λ z n e k b. absurd (omega arith))
      u a

  pub used-is : (command_in s q ≡ 0 → ⊥) → is_unused u ≡ false
  used-is y =
      by_kind (λ v. is_unused v ≡ false) s q r lo hi
      (λ z k b. absurd (y k)) (λ z t ty k b. refl) (λ z es k b. refl) (λ z n e k b. refl)
      u a

module _ {ty at : ℕ} {s : List ℕ} {q : ℕ} where
  module _ {k : Kind} (x : k ≡ kind_of (command_in s q)) where
    pub leaf_type : {t : ℕ} → at ≡ 0 → (k ≡ StrictlyTyped) ⊎ (k ≡ DirectAccess) → t ≡ argument_in s q → WholeLeaf ty at s q (eqb ty t)
    unfolding Stands
    leaf_type {t} h l f = record {
      is = λ u r lo hi a.
          let is : (v : Kind) → k ≡ v → command_in s q ≡ command_of v = command_of_kind u s q r lo hi a x in
          let leaf : (1 ≤ command_in s q) × (command_in s q ≤ 2) = ⊎_elim (λ e. (omega (arith, is StrictlyTyped e), omega (arith, is StrictlyTyped e))) (λ e. (omega (arith, is DirectAccess e), omega (arith, is DirectAccess e))) l in
          rw (eq-eqb at 0 h)
          (by_kind (λ v. eqb ty t ≡ is_leaf_of ty v) s q r lo hi
          (λ z k b. absurd (omega arith)) (λ z t' ty' k b. rw (f, b.1)) (λ z es k b. absurd (omega arith)) (λ z n e k b. absurd (omega arith))
          u a);
    }

    pub no_leaf : (k ≡ Unused) ⊎ ((k ≡ OffsetBase) ⊎ (k ≡ DynOffsetBase)) → WholeLeaf ty at s q false
    no_leaf n = record {
      is = λ u r lo hi a.
          let is : (v : Kind) → k ≡ v → command_in s q ≡ command_of v = command_of_kind u s q r lo hi a x in
          let apart : (1 ≤ command_in s q) → (command_in s q ≤ 2) → ⊥ =
          ⊎_elim (λ e m n. omega (arith, is Unused e)) (⊎_elim (λ e m n. omega (arith, is OffsetBase e)) (λ e m n. omega (arith, is DynOffsetBase e))) n in
          let f : is_leaf_of ty u ≡ false =
          by_kind (λ v. is_leaf_of ty v ≡ false) s q r lo hi
          (λ z k b. refl) (λ z t ty' k b. absurd (apart k.0 k.1)) (λ z es k b. refl) (λ z n e k b. refl)
          u a in
          rw (f, and-false);
    }
