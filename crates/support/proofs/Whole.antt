-- A question is of the whole layout or of its components alone, so that what is known of the other holds of nothing.
-- Assumes nothing.
use Prim.Native.Nat.{ℕ}
use mathlib.Core.Path.{◌≡◌, refl}
use mathlib.Core.Bool.{Bool, true, false}
use mathlib.Core.List.{List}
use Rattle.std.proofs.lemmas.Bool.{both_ways}
use Rattle.support.specs.Askable.{Askable, ConcreteAskable}
use Rattle.support.specs.Supported.{Supports, ComponentSupports, ItselfSupports, Says}
use Rattle.support.specs.Cache.{LeftOpen}
use Rattle.support.proofs.Types.{asks_concrete}
use Rattle.support.proofs.Rules.{part_supported, itself_asked}
use Rattle.layout.specs.declared.setting.Setting.{Setting as CodeSetting}

module _ {code : CodeSetting} {ty : ℕ} {s : List ℕ} {q : ℕ} where
  pub asks_either : {at : ℕ} (whole : Bool) → Askable code ty s q → (whole ≡ true → LeftOpen code ty at s q) →
      (whole ≡ false → ConcreteAskable code ty s q) → ConcreteAskable code ty s q
  asks_either true w L C = asks_concrete w (L refl).components
  asks_either false w L C = C refl

  pub not_parts : true ≡ false → ConcreteAskable code ty s q
  not_parts e = absurd (both_ways _ e refl)

  pub whole_says : {at : ℕ} {v : Bool} → Says code ty at s q true v → Supports code ty at s q v
  whole_says S = S.layout refl

module _ {code : CodeSetting} {ty at : ℕ} {s : List ℕ} {q : ℕ} {whole : Bool} where
  pub says_whole : {v : Bool} → whole ≡ true → Supports code ty at s q v → Says code ty at s q whole v
  says_whole w g = record { layout = λ e. g; components = λ e. absurd (both_ways _ e w) }

  -- what the components say, and the usage itself

  module _ {v : Bool} (L : whole ≡ true → LeftOpen code ty at s q) (P : ComponentSupports code ty at s q v) where
    pub part_says : v ≡ true → Says code ty at s q whole v
    part_says e = rw e (record { layout = λ w. part_supported (L w) P e; components = λ p. rw e at P })

    pub itself_says : {i : Bool} → v ≡ false → whole ≡ true → ItselfSupports code ty at s q i → Says code ty at s q whole i
    itself_says e w self = says_whole w (itself_asked (L w) P e self)
