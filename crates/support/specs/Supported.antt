-- What the code's answers say of the definitions of support. Each holds in every setting that is known, and of every usage that
-- is record q.
-- Assumes nothing.
use Rattle.std.specs.Prelude.{ℕ, ◌+◌, ◌<◌, ◌≡◌, Bool, true, false, ◌&&◌, List, [], Result, Ok, Err, eqb, length}
use Rattle.definitions.specs.Usage.{Size, Usage, map, array, Entries}
use Rattle.definitions.specs.Table.{Setting, Components as Parts, elements, concrete, layout_of}
use Rattle.definitions.specs.Support.{is_leaf_of, component_supports, entry_supported, entries_supported, elements_supported, itself, supports}
use Rattle.definitions.specs.Place.{Kept, handle_conflict, failed_conflict, asked}
use Rattle.records.specs.Records.{offset_in}
use Rattle.record_links.specs.Standing.{Stands}
use Rattle.layout.specs.Located.{Known}
use Rattle.layout.specs.declared.table.Array.{Array}
use Rattle.layout.specs.declared.setting.Setting.{Setting as CodeSetting}
use Rattle.support.specs.declared.NotAsked.{NotAsked}
use Rattle.support.specs.declared.NotAsked.TheVariants.{Handle, Failed}

-- P holds of each usage that is record q
abbrev pub OfEach : List ℕ → ℕ → (Usage → Type 0) → Type 0
OfEach s q P = (u : Usage) (rank : ℕ → ℕ) (lo hi : ℕ) → Stands u s q rank lo hi → P u

-- it is a leaf of this type, at offset 0
pub record WholeLeaf (ty at : ℕ) (s : List ℕ) (q : ℕ) (r : Bool) : Type 0 where
  pub is : OfEach s q λ u. r ≡ (eqb at 0 && is_leaf_of ty u)

-- P holds in each known setting that has the type
abbrev pub InEach : CodeSetting → ℕ → (Setting → Type 0) → Type 0
InEach code ty P = (st : Setting) → Known code st → ty < length st.table → P st

-- and here of the components of the type's layout
abbrev pub InLayout : CodeSetting → ℕ → (Setting → Parts → Type 0) → Type 0
InLayout code ty P = InEach code ty λ st. (n d : ℕ) (cs : Parts) → layout_of st.table ty ≡ concrete n d cs → P st cs

pub record Supports (code : CodeSetting) (ty at : ℕ) (s : List ℕ) (q : ℕ) (r : Bool) : Type 0 where
  pub is : InEach code ty λ st. OfEach s q λ u. r ≡ supports st ty at u

pub record ComponentSupports (code : CodeSetting) (ty at : ℕ) (s : List ℕ) (q : ℕ) (r : Bool) : Type 0 where
  pub is : InLayout code ty λ st cs. OfEach s q λ u. r ≡ component_supports st (supports st) cs at u

pub record EntrySupported (code : CodeSetting) (ty at : ℕ) (s : List ℕ) (q : ℕ) (r : Bool) : Type 0 where
  pub is : InLayout code ty λ st cs. OfEach s q λ u. r ≡ entry_supported st (supports st) ty cs (at + offset_in s q) u

pub record EntriesSupported (code : CodeSetting) (ty at : ℕ) (s : List ℕ) (q : ℕ) (r : Bool) : Type 0 where
  pub is : InLayout code ty λ st cs. (z : Size) (es : Entries) (rank : ℕ → ℕ) (lo hi : ℕ) → Stands (map z es) s q rank lo hi → r ≡ entries_supported st (supports st) ty cs at es

pub record ElementsSupported (code : CodeSetting) (a : Array) (at : ℕ) (s : List ℕ) (q : ℕ) (r : Bool) : Type 0 where
  pub is : InEach code a.elem λ st. (z : Size) (n : ℕ) (e : Usage) (rank : ℕ → ℕ) (lo hi : ℕ) → Stands (array z n e) s q rank lo hi →
      r ≡ elements_supported st (supports st) (elements a.stride a.elem a.len) at z n e

pub record ItselfSupports (code : CodeSetting) (ty at : ℕ) (s : List ℕ) (q : ℕ) (r : Bool) : Type 0 where
  pub is : InLayout code ty λ st cs. OfEach s q λ u. r ≡ itself st (supports st) ty cs at u

-- the whole layout is asked, or its components alone
pub record Says (code : CodeSetting) (ty at : ℕ) (s : List ℕ) (q : ℕ) (whole r : Bool) : Type 0 where
  pub layout : whole ≡ true → Supports code ty at s q r
  pub components : whole ≡ false → ComponentSupports code ty at s q r

-- what rule 4 keeps on each answer of a type: on no what follows, on yes the type; one that is a handle or failed is kept, with 33,
-- or with 34 and the type
abbrev pub kept_by : Result Bool NotAsked → ℕ → Kept → Kept
kept_by (Ok false) ty otherwise = otherwise
kept_by (Ok true) ty otherwise = record { type = ty; report = [] }
kept_by (Err Handle) ty otherwise = record { type = ty; report = handle_conflict }
kept_by (Err Failed) ty otherwise = record { type = ty; report = failed_conflict ty }

pub record Asked (code : CodeSetting) (ty at : ℕ) (s : List ℕ) (q : ℕ) (r : Result Bool NotAsked) : Type 0 where
  pub is : InEach code ty λ st. OfEach s q λ u. (otherwise : Kept) → kept_by r ty otherwise ≡ asked st ty at u otherwise
