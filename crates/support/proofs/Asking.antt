-- A type's answer is that of its layout: only a concrete one is asked.
-- Assumes nothing.
use Prim.Native.Nat.{ℕ}
use mathlib.Core.Path.{◌≡◌, refl}
use mathlib.Core.Bool.{Bool, true, false}
use mathlib.Core.List.{List, []}
use Rattle.std.specs.Prelude.{Ok}
use Rattle.definitions.specs.If.{when◌then◌else◌}
use Rattle.definitions.specs.Place.{Kept, asked}
use Rattle.layout.specs.Located.{LayoutIs}
use Rattle.layout.specs.declared.table.Components.{Components}
use Rattle.layout.specs.declared.table.TypeLayout.{TypeLayout}
use Rattle.layout.specs.declared.table.TypeLayout.TheVariants.{Concrete}
use Rattle.layout.specs.declared.setting.Setting.{Setting as CodeSetting}
use Rattle.support.specs.Supported.{Supports, kept_by, Asked}
use Rattle.support.proofs.Types.{layout_is}

kept_either : (v : Bool) (ty : ℕ) (otherwise : Kept) → kept_by (Ok v) ty otherwise ≡ (when v then record { type = ty; report = [] } else otherwise)
unfolding when◌then◌else◌
kept_either true ty otherwise = refl
kept_either false ty otherwise = refl

module _ {code : CodeSetting} {ty at : ℕ} {s : List ℕ} {q : ℕ} {r : TypeLayout} (l : LayoutIs code.table ty r) where
  pub ok_answers : {n d : ℕ} {cs : Components} {v : Bool} → r ≡ Concrete n d cs → Supports code ty at s q v → Asked code ty at s q (Ok v)
  ok_answers {v = v} y g = record { is = λ st k b u r lo hi a otherwise. rw (asked, layout_is l y st k b, ← g.is st k b u r lo hi a) (kept_either v ty otherwise) }
