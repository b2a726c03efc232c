-- A type's answer decides as rule 4 does.
-- Assumes nothing.
use Rattle.std.proofs.Common.{◌≡◌, ℕ, Bool, true, false, refl, ◌∙◌}
use Rattle.std.specs.Prelude.{Result, Ok, Err}
use Rattle.definitions.specs.Usage.{Usage}
use Rattle.definitions.specs.Table.{Setting}
use Rattle.definitions.specs.Place.{Kept as KeptType, asked}
use Rattle.support.specs.Supported.{kept_by}
use Rattle.support.specs.declared.NotAsked.{NotAsked}
use Rattle.support.specs.declared.NotAsked.TheVariants.{Handle, Failed}
use Rattle.place_leaf.specs.Leaves.{kept_of, is_no, decided}
use Rattle.place_leaf.specs.declared.Kept.{Kept}

pub said_no : (a : Result Bool NotAsked) → is_no a ≡ true → a ≡ Ok false
said_no (Ok false) e = refl
said_no (Ok true) e = cc
said_no (Err why) e = cc

-- what would follow from no need be right only there
pub decides : (setting : Setting) (ty d : ℕ) (u : Usage) (a : Result Bool NotAsked) (other : Kept) (x : KeptType) → ((y : KeptType) → kept_by a ty y ≡ asked setting ty d u y)
    → (a ≡ Ok false → kept_of other ≡ x) → kept_of (decided a ty other) ≡ asked setting ty d u x
decides setting ty d u (Ok false) other x e same = same refl ∙ e x
decides setting ty d u (Ok true) other x e same = e x
decides setting ty d u (Err Handle) other x e same = e x
decides setting ty d u (Err Failed) other x e same = e x
