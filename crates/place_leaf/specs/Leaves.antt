-- What the functions for rule 4 say.
-- Assumes nothing.
use Rattle.std.specs.Prelude.{ℕ, ◌≡◌, Bool, true, false, not, List, [], length, Option, Some, None, Result, Ok, Err}
use Rattle.std.proofs.Math.Option.{Option as Maybe, none as nothing, some}
use Rattle.definitions.specs.Usage.{Size, Usage, leaf}
use Rattle.definitions.specs.Table.{Setting}
use Rattle.definitions.specs.Place.{type_at_zero, Kept as KeptType, kept_type, type_conflict, handle_conflict, failed_conflict}
use Rattle.qptr.specs.declared.Kind.{Kind}
use Rattle.qptr.specs.declared.Kind.TheVariants.{StrictlyTyped, DirectAccess}
use Rattle.layout.specs.Located.{Known}
use Rattle.layout.specs.declared.setting.Setting.{Setting as CodeSetting}
use Rattle.place_states.specs.Calls.{Two}
use Rattle.support.specs.Supported.{OfEach}
use Rattle.support.specs.declared.NotAsked.{NotAsked}
use Rattle.support.specs.declared.NotAsked.TheVariants.{Handle, Failed}
use Rattle.place_leaf.specs.declared.Kept.{Kept}
use Rattle.place_leaf.specs.declared.Conflict.{Conflict}
use Rattle.place_leaf.specs.declared.Conflict.TheVariants.{Types, Handle as IsHandle, Failed as HasFailed}

-- a usage with this command is a leaf
pub record Typed (c : ℕ) : Type 0 where
  pub used : c ≡ 0 → ⊥
  pub no_map : c ≡ 3 → ⊥
  pub no_array : c ≡ 4 → ⊥

-- a type, if there is one, as the definitions say it
abbrev pub type_of : Option ℕ → Maybe ℕ
type_of (Some c) = some c
type_of None = nothing

-- it is b's type at 0, or there is none
pub record TypeAt (s : List ℕ) (q d : ℕ) (r : Option ℕ) : Type 0 where
  pub is : OfEach s q λ u. type_at_zero d u ≡ type_of r

-- the kind of a leaf that is strict if one of these two is
pub record Stricter (a b r : Kind) : Type 0 where
  pub left : a ≡ StrictlyTyped → r ≡ StrictlyTyped
  pub right : b ≡ StrictlyTyped → r ≡ StrictlyTyped
  pub neither : (a ≡ StrictlyTyped → ⊥) → (b ≡ StrictlyTyped → ⊥) → r ≡ DirectAccess

abbrev pub report_of : Option Conflict → ℕ → List ℕ
report_of None ty = []
report_of (Some Types) ty = type_conflict
report_of (Some IsHandle) ty = handle_conflict
report_of (Some HasFailed) ty = failed_conflict ty

abbrev pub kept_of : Kept → KeptType
kept_of k = record { type = k.ty; report = report_of k.conflict k.ty }

abbrev pub conflict_of : NotAsked → Conflict
conflict_of Handle = IsHandle
conflict_of Failed = HasFailed

abbrev pub is_no : Result Bool NotAsked → Bool
is_no (Ok v) = not v
is_no (Err why) = false

-- what follows from a type's answer
abbrev pub decided : Result Bool NotAsked → ℕ → Kept → Kept
decided (Ok false) ty otherwise = otherwise
decided (Ok true) ty otherwise = record { ty = ty; conflict = None }
decided (Err why) ty otherwise = record { ty = ty; conflict = Some (conflict_of why) }

-- the type that is kept is the one that rule 4 keeps
pub record Keeps (code : CodeSetting) (s : List ℕ) (a d b : ℕ) (r : Kept) : Type 0 where
  pub is : (setting : Setting) → Known code setting → (z : Size) (k : Bool) (ty : ℕ) (u : Usage) (rank : ℕ → ℕ) (lo mid hi : ℕ) → Two (length setting.table) s a b rank lo mid hi (leaf z k ty) u
      → kept_of r ≡ kept_type setting (leaf z k ty) ty d u (type_at_zero d u)
