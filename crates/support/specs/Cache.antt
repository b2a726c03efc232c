-- What is remembered of questions is true: that is the invariant. And what is left to be asked.
-- Assumes nothing.
use Rattle.std.specs.Prelude.{ℕ, ◌<◌, ◌≡◌, Bool, ◌||◌, List}
use Rattle.definitions.specs.Support.{component_supports, itself, supports}
use Rattle.records.specs.Records.{command_in, tag_in, past_in}
use Rattle.layout.specs.Values.{parts_of}
use Rattle.layout.specs.declared.table.Components.{Components}
use Rattle.layout.specs.declared.setting.Setting.{Setting as CodeSetting}
use Rattle.support_cache.specs.Nodes.{Unchanged, Below}
use Rattle.support_cache.specs.Cached.{tag_of, In}
use Rattle.support_cache.specs.declared.CachedAnswer.{CachedAnswer}
use Rattle.support.specs.Askable.{ComponentsOf}
use Rattle.support.specs.Supported.{OfEach, InEach, Supports}

-- what node i remembers is true
pub record Recalls (code : CodeSetting) (s : List ℕ) (i : ℕ) : Type 0 where
  pub is : (ty : ℕ) (b : Bool) → tag_in s i ≡ tag_of ty b → Supports code ty (past_in s i) s i b

-- so is what the list has (of the types that a table can have)
pub record Listed (code : CodeSetting) (s : List ℕ) (d : List CachedAnswer) : Type 0 where
  pub is : (ty at q : ℕ) (b : Bool) → ty < 1024 → In d ty at q b → Supports code ty at s q b

-- and what the nodes of the usage at record q remember
pub record CacheTrue (code : CodeSetting) (s : List ℕ) (q : ℕ) (d : List CachedAnswer) : Type 0 where
  pub nodes : (i : ℕ) → Below s q i → Recalls code s i
  pub list : Listed code s d

-- a question changes what is remembered and nothing else, and what is true stays so
pub record Kept (code : CodeSetting) (s s' : List ℕ) (d d' : List CachedAnswer) : Type 0 where
  pub records : Unchanged s s'
  pub nodes : (i : ℕ) → Recalls code s i → Recalls code s' i
  pub list : Listed code s d → Listed code s' d'

-- What the functions say

-- the components are left to be asked, and then the usage itself
pub record LeftOpen (code : CodeSetting) (ty at : ℕ) (s : List ℕ) (q : ℕ) : Type 0 where
  pub used : command_in s q ≡ 0 → ⊥
  pub parts : Components
  pub components : ComponentsOf code ty parts
  pub is : InEach code ty λ st. OfEach s q λ u.
      supports st ty at u ≡ (component_supports st (supports st) (parts_of code.table.bytes.now parts) at u || itself st (supports st) ty (parts_of code.table.bytes.now parts) at u)
