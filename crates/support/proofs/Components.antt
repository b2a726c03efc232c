-- The components that contain the usage are asked in their order: until one supports it, what all of them say is what those from
-- the next index on say.
-- Assumes nothing.
use Prim.Native.Nat.{ℕ, ◌<◌}
use native.Mathlib.Omega.{arith}
use mathlib.Core.Path.{◌≡◌, ap, ◌∙◌}
use mathlib.Core.Bool.{Bool, true, false, ◌||◌}
use mathlib.Core.List.{List}
use Rattle.std.specs.Prelude.{Option, Some}
use lib.ListN.{length}
use Rattle.definitions.specs.Usage.{Size, size}
use Rattle.definitions.specs.Table.{Setting, Components as Parts, concrete, layout_of}
use Rattle.definitions.specs.Containment.{end_of}
use Rattle.definitions.specs.Support.{any_of, component_supports, supports}
use Rattle.records.specs.Records.{size_in}
use Rattle.layout.specs.Located.{Known}
use Rattle.layout.specs.Containing.{containing_from, Next, Finds}
use Rattle.layout.specs.declared.containment.Component.{Component}
use Rattle.layout.specs.declared.setting.Setting.{Setting as CodeSetting}
use Rattle.layout.proofs.Uses.{component_below, from_start}
use Rattle.support.specs.Supported.{OfEach, InLayout, Supports, ComponentSupports}
use Rattle.support_cache.proofs.Roots.{size_is}

-- what all of them say is what those from index `from` on say, of a range up to `end`
pub record AskedFrom (code : CodeSetting) (ty at : ℕ) (s : List ℕ) (q end from : ℕ) : Type 0 where
  pub is : InLayout code ty λ st cs. OfEach s q λ u.
      component_supports st (supports st) cs at u ≡ any_of (supports st) (containing_from st cs at end from) u

module _ {code : CodeSetting} {ty at : ℕ} {s : List ℕ} {q : ℕ} where
  pub asked_first : {end : ℕ} {z : Size} → z ≡ size_in s q → end ≡ end_of at z → AskedFrom code ty at s q end 0
  asked_first {end} z e = record {
    is = λ st k b n d cs l u r lo hi a.
        let x : end ≡ end_of at (size u) = e ∙ ap (end_of at) (z ∙ size_is u s q r lo hi a) in
        rw (x, ← from_start st cs at (end_of at (size u)));
  }

  module _ {end from : ℕ} {r : Option Component} (h : AskedFrom code ty at s q end from) (f : Finds code ty from at end r) where
    next_is : {v : Option Component} → r ≡ v → (st : Setting) → Known code st → ty < length st.table →
        (n d : ℕ) (cs : Parts) → layout_of st.table ty ≡ concrete n d cs → Next (containing_from st cs at end) from v
    next_is y st k b n d cs l = rw y at (f.is st k.placed k.chosen b n d cs l)

    module _ {c : Component} {v : Bool} (y : r ≡ Some c) (g : Supports code c.ty c.rest s q v) where
      -- the component at the index, and those after it
      head_says : InLayout code ty λ st cs. OfEach s q λ u.
          component_supports st (supports st) cs at u ≡ (v || any_of (supports st) (containing_from st cs at end c.next) u)
      head_says st k b n d cs l u r lo hi a =
          rw (h.is st k b n d cs l u r lo hi a, (next_is y st k b n d cs l).0, ← g.is st k (omega (arith, component_below f y)) u r lo hi a)

      pub one_asked : v ≡ true → ComponentSupports code ty at s q true
      one_asked t = record { is = λ st k b n d cs l u r lo hi a. rw (head_says st k b n d cs l u r lo hi a, t) }

      pub more_asked : v ≡ false → AskedFrom code ty at s q end c.next
      more_asked t = record { is = λ st k b n d cs l u r lo hi a. rw (head_says st k b n d cs l u r lo hi a, t) }
