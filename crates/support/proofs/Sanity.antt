-- A type may be asked: of a table and a usage written out in bytes all that is required holds by computation.
-- Assumes nothing.
use Prim.Native.Nat.{ℕ, zero, suc, ◌<◌}
use native.Mathlib.Omega.{arith}
use mathlib.Core.Path.{◌≡◌, refl}
use mathlib.Core.Bool.{true, false}
use mathlib.Core.List.{List, [], ◌∷◌, ◌++◌}
use Rattle.definitions.specs.If.{when◌then◌else◌}
use Rattle.definitions.specs.Usage.{Usage, leaf, fixed}
use Rattle.definitions.specs.Stream.{bytes}
use Rattle.definitions.specs.Table.{Setting, concrete, scalar, elements, table_of}
use Rattle.definitions.specs.Support.{supports, supports_in}
use Rattle.definitions.specs.Requests.Choices.{choices_of}
use Rattle.qptr.specs.Choices.{choices_in}
use Rattle.qptr.specs.declared.choices.Lookup.TheVariants.{Strict}
use Rattle.qptr.specs.declared.choices.Ties.TheVariants.{First}
use Rattle.numbers.specs.Words.{number_at}
use Rattle.record_links.specs.Standing.{Stands}
use Rattle.layout.specs.Located.{Located}
use Rattle.layout.specs.declared.setting.Setting.{Setting as CodeSetting}
use Rattle.support.specs.Askable.{Askable}

-- type 0 is a scalar of 4 bytes, and type 1 four of them in a row

first : List ℕ
first = 0x20 ∷ bytes 4 4 ++ bytes 4 0

second : List ℕ
second = 0x21 ∷ bytes 4 16 ++ bytes 4 0 ++ bytes 4 4 ++ bytes 4 0 ++ bytes 4 4

code : CodeSetting
code = record {
  table = record {
    bytes = record { ref_ptr = (0, 0); now = bytes 2 2 ++ first ++ second };
    starts = record { ref_ptr = (0, 0); now = 2 ∷ 11 ∷ [] };
  };
  choices = record { ties = First; lookup = Strict };
}

setting : Setting
setting = record { table = concrete 4 0 scalar ∷ concrete 16 0 (elements 4 0 4) ∷ []; choices = choices_of 3 }

-- a leaf of type 0, as record 1
asked : Usage
asked = leaf (fixed 4) true 0

records_with_it : List ℕ
records_with_it = bytes 32 0 ++ bytes 2 1 ++ bytes 2 1 ++ bytes 4 0 ++ bytes 4 1 ++ bytes 4 4 ++ bytes 4 0 ++ bytes 4 0 ++ bytes 8 0

stands : (ty : ℕ) → ty < 2 → Located code.table setting.table ty
unfolding code setting first second when◌then◌else◌
stands zero l = record { kept = omega arith; rest = second; stands = refl; admits = refl }
stands (suc zero) l = record { kept = omega arith; rest = []; stands = refl; admits = refl }
stands (suc (suc ty)) l = absurd (omega arith)

askable : Askable code 1 records_with_it 1
unfolding choices_in code setting first second asked records_with_it table_of when◌then◌else◌ Stands number_at
askable = record {
  type = record { setting = setting; known = record { read = refl; placed = stands; chosen = refl }; below = omega arith };
  usage = record {
    usage = asked;
    rank = λ i. i;
    lo = 1;
    hi = 2;
    stands = (record { some = omega arith; inside = omega arith; low = omega arith; high = omega arith; command = refl; size = refl }, refl);
    few = omega arith;
    within = omega arith;
    numbered = omega arith;
  };
}

-- each element supports it, and nothing between two of them does

at_an_element : supports setting 1 12 asked ≡ true
unfolding setting asked supports supports_in when◌then◌else◌
at_an_element = refl

between_two : supports setting 1 6 asked ≡ false
unfolding setting asked supports supports_in when◌then◌else◌
between_two = refl
