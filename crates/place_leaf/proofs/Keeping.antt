-- The type kept is rule 4's: the answers decide in its order, and the second type is asked only where the first does not support b.
-- Assumes nothing.
use Prim.Native.Nat.{ℕ, ◌<◌}
use mathlib.Core.Path.{◌≡◌, refl, sym, ap, ◌∙◌}
use mathlib.Core.Bool.{Bool, true, false}
use mathlib.Core.List.{List}
use Rattle.std.specs.Prelude.{Some, None, Result, Ok}
use native.Mathlib.Omega.{arith}
use borrow.Author.Tests.{eq-eqb, ne_eqb}
use lib.ListN.{length}
use Rattle.definitions.specs.If.{when◌then◌else◌}
use Rattle.definitions.specs.Usage.{Size, Usage, leaf}
use Rattle.definitions.specs.Table.{Setting}
use Rattle.definitions.specs.Place.{Kept as KeptType, asked}
use Rattle.definitions.specs.Sound.{Storable}
use Rattle.records.specs.Records.{argument_in}
use Rattle.record_links.specs.Standing.{Stands}
use Rattle.layout.specs.Located.{Known}
use Rattle.layout.specs.declared.setting.Setting.{Setting as CodeSetting}
use Rattle.place_states.specs.Calls.{Two}
use Rattle.std.proofs.lemmas.Bool.{both_ways}
use Rattle.support.specs.Supported.{Asked}
use Rattle.support.specs.declared.NotAsked.{NotAsked}
use Rattle.place_leaf.specs.Leaves.{TypeAt, kept_of, is_no, decided, Keeps}
use Rattle.place_leaf.specs.declared.Kept.{Kept}
use Rattle.place_leaf.specs.declared.Conflict.TheVariants.{Types}
use Rattle.place_leaf.proofs.Deciding.{said_no, decides}
use Rattle.place_leaf.proofs.Typing.{leaf_type, LeafOf, leaf_of, typed_at}

-- an answer in a setting
answers : {code : CodeSetting} {ty d : ℕ} {s : List ℕ} {q : ℕ} {a : Result Bool NotAsked} → Asked code ty d s q a → (setting : Setting) → Known code setting
    → ty < length setting.table → (u : Usage) (r : ℕ → ℕ) (lo hi : ℕ) → Stands u s q r lo hi → (other : Kept) (x : KeptType) → (a ≡ Ok false → kept_of other ≡ x)
    → kept_of (decided a ty other) ≡ asked setting ty d u x
answers {ty} {d} {a} A setting known below u r lo hi h other x same =
    decides setting ty d u a other x (A.is setting known below u r lo hi h) same

abbrev differing : ℕ → Kept
differing ty = record { ty = ty; conflict = Some Types }

no_no : {a : Result Bool NotAsked} → is_no a ≡ false → a ≡ Ok false → ⊥
no_no h e = let said = ap is_no e in both_ways _ h said

-- a's type is ty, as its record says, and b's at 0 is c
own : {k : ℕ} {s : List ℕ} {a b ty : ℕ} {z : Size} {x : Bool} {t : ℕ} {u : Usage} {r : ℕ → ℕ} {lo mid hi : ℕ} → ty ≡ argument_in s a → Two k s a b r lo mid hi (leaf z x t) u → ty ≡ t
own {s = s} {a = a} {z = z} {x = x} {t = t} {r = r} {lo = lo} {mid = mid} here two = here ∙ leaf_type z x t s a r lo mid two.left

its_below : {k c : ℕ} {u : Usage} → LeafOf c u → Storable k u → c < k
its_below (leaf_of z x) f = f.1

module _ {code : CodeSetting} {s : List ℕ} {a d b ty : ℕ} (here : ty ≡ argument_in s a) where
  -- b has none
  pub keeps_one : {w : Result Bool NotAsked} {y : Kept} → TypeAt s b d None → Asked code ty d s b w → y ≡ decided w ty (differing ty) → Keeps code s a d b y
  keeps_one {w} T A e = record {
    is = λ setting known z k t' u r lo mid hi two.
        let same : ty ≡ t' = own here two in
        rw (T.is u r mid hi two.right, ← same, e)
        (answers A setting known (omega (arith, two.left_fits.1)) u r mid hi two.right (differing ty) (kept_of (differing ty)) (λ _. refl));
  }

  -- b's type is c
  module _ {c : ℕ} (T : TypeAt s b d (Some c)) where
    pub keeps_equal : c ≡ ty → Keeps code s a d b (record { ty = ty; conflict = None })
    unfolding when◌then◌else◌
    keeps_equal e = record {
      is = λ setting known z k t' u r lo mid hi two.
          let same : ty ≡ t' = own here two in
          rw (T.is u r mid hi two.right, ← same, eq-eqb c ty e);
    }

    module _ {w : Result Bool NotAsked} {y : Kept} (differ : c ≡ ty → ⊥) (A : Asked code ty d s b w) where
      pub keeps_first : {n : Bool} → n ≡ is_no w → n ≡ false → y ≡ decided w ty (differing ty) → Keeps code s a d b y
      unfolding when◌then◌else◌
      keeps_first is said e = record {
        is = λ setting known z k t' u r lo mid hi two.
            let same : ty ≡ t' = own here two in
            rw (T.is u r mid hi two.right, ← same, ne_eqb c ty differ, e)
            (answers A setting known (omega (arith, two.left_fits.1)) u r mid hi two.right (differing ty)
            (asked setting c 0 (leaf z k ty) (kept_of (differing ty))) (λ none_said. absurd (no_no (sym is ∙ said) none_said)));
      }

      pub keeps_second : {n : Bool} {w' : Result Bool NotAsked} → n ≡ is_no w → n ≡ true → Asked code c 0 s a w' → y ≡ decided w' c (differing ty) → Keeps code s a d b y
      unfolding when◌then◌else◌
      keeps_second {w' = w'} is said A' e = record {
        is = λ setting known z k t' u r lo mid hi two.
            let same : ty ≡ t' = own here two in
            let ours : Two (length setting.table) s a b r lo mid hi (leaf z k ty) u = rw (← same) at two in
            rw (T.is u r mid hi two.right, ← same, ne_eqb c ty differ, e)
            (rw (said_no w (sym is ∙ said)) at
            (answers A setting known (omega (arith, two.left_fits.1)) u r mid hi two.right (decided w' c (differing ty))
            (asked setting c 0 (leaf z k ty) (kept_of (differing ty)))
            (λ _. answers A' setting known (its_below (typed_at d u (T.is u r mid hi two.right)) two.right_fits) (leaf z k ty) r lo mid ours.left (differing ty) (kept_of (differing ty)) (λ _. refl))));
      }
