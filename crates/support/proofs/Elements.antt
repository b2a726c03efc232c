-- Elements support an array of their stride, at the start of one of them and up to their length, if their type supports its element.
-- Assumes nothing.
use Prim.Native.Nat.{ℕ, suc, ◌%◌, ◌<◌}
use mathlib.Core.Path.{◌≡◌, refl, ap, sym, ◌∙◌}
use mathlib.Core.Bool.{Bool, true, false}
use mathlib.Core.List.{List}
use borrow.Author.Tests.{eq-eqb, ne_eqb}
use Rattle.definitions.specs.Usage.{Size, Usage, array}
use Rattle.definitions.specs.Support.{same_length}
use Rattle.records.specs.Records.{size_in, argument_in, child_in}
use Rattle.record_links.specs.Standing.{Stands}
use Rattle.support.specs.Supported.{Supports, ElementsSupported}
use Rattle.support_cache.proofs.Roots.{size_is}
use Rattle.layout.specs.declared.table.Array.{Array}
use Rattle.layout.specs.declared.setting.Setting.{Setting as CodeSetting}

module _ (s : List ℕ) (q : ℕ) (z : Size) (n : ℕ) (e : Usage) (r : ℕ → ℕ) (lo hi : ℕ) (a : Stands (array z n e) s q r lo hi) where
  stride_is : argument_in s q ≡ n
  unfolding Stands
  stride_is = a.1

  own_stride : {stride t : ℕ} → t ≡ argument_in s q → stride ≡ t → n ≡ stride
  own_stride x same = sym (same ∙ x ∙ stride_is)

  own_length : (stride len at : ℕ) {v : Bool} {y : Size} → y ≡ size_in s q → v ≡ same_length stride len at y → same_length stride len at z ≡ v
  own_length stride len at y g = sym (g ∙ ap (same_length stride len at) (y ∙ size_is (array z n e) s q r lo hi a))

module _ {code : CodeSetting} {b : Array} {at : ℕ} {s : List ℕ} {q t : ℕ} (x : t ≡ argument_in s q) where
  pub other_stride : (b.stride ≡ t → ⊥) → ElementsSupported code b at s q false
  other_stride h = record {
    is = λ st k l z n e r lo hi a. let y : b.stride ≡ n → ⊥ = λ y. h (y ∙ sym (x ∙ stride_is s q z n e r lo hi a)) in rw (ne_eqb b.stride n y);
  }

  module _ (same : b.stride ≡ t) where
    module _ (starts : at % b.stride ≡ 0) {v : Bool} {y : Size} (here : y ≡ size_in s q) (g : v ≡ same_length b.stride b.len at y) where
      pub other_length : v ≡ false → ElementsSupported code b at s q false
      other_length h = record {
        is = λ st k l z n e r lo hi a.
            rw (own_stride s q z n e r lo hi a x same, eq-eqb b.stride b.stride refl, eq-eqb (at % b.stride) 0 starts, own_length s q z n e r lo hi a b.stride b.len at here g, h);
      }

      pub by_element : {c : ℕ} {r : Bool} → v ≡ true → (c ≡ child_in s q) × (c < 65536) → Supports code b.elem 0 s c r → ElementsSupported code b at s q r
      unfolding Stands
      by_element {c} h p f = record {
        is = λ st k l z n e r lo hi a.
            rw (own_stride s q z n e r lo hi a x same, eq-eqb b.stride b.stride refl, eq-eqb (at % b.stride) 0 starts, own_length s q z n e r lo hi a b.stride b.len at here g, h)
            (f.is st k l e r (suc (r q)) hi (rw (sym p.0) at a.2));
      }
