-- A fold merges every node: of three nodes, merging the first two and keeping that is something else, and so is stopping at the first
-- conflict. What is required of folding can be met, and a whole call is computed.
-- Assumes nothing.
use Prim.Native.Nat.{ℕ, zero, suc, ◌<◌}
use mathlib.Core.Path.{◌≡◌, refl}
use mathlib.Core.Bool.{true, false}
use mathlib.Core.List.{List, [], ◌∷◌, ◌++◌}
use native.Mathlib.Omega.{arith}
use lib.ListN.{length, replicate}
use Rattle.definitions.specs.If.{when◌then◌else◌}
use Rattle.definitions.specs.Limits.{work_limit}
use Rattle.definitions.specs.Usage.{Usage, leaf, fixed, memory, Nodes}
use Rattle.definitions.specs.Command.{command_at}
use Rattle.definitions.specs.Stream.{bytes, write_top, write_list, list_of, read_node, read_node_in}
use Rattle.definitions.specs.Table.{Setting, concrete, scalar, table_of}
use Rattle.definitions.specs.Support.{supports, supports_in}
use Rattle.definitions.specs.Place.{done, place, place_in, merge_mem, fold}
use Rattle.definitions.specs.Calls.{fold_call}
use Rattle.definitions.specs.Requests.Choices.{rust}
use Rattle.layout.specs.Located.{Located}
use Rattle.layout.specs.declared.setting.Setting.{Setting as CodeSetting}
use Rattle.qptr.specs.Choices.{choices_in}
use Rattle.qptr.specs.declared.choices.TheConstants.Choices.{RUST}
use Rattle.call_fold.specs.Folding.{FoldReady}

-- types 0 and 1 are scalars of 4 bytes
table : List ℕ
table = bytes 2 2 ++ 0x20 ∷ bytes 4 4 ++ bytes 4 0 ++ 0x20 ∷ bytes 4 4 ++ bytes 4 0

setting : Setting
setting = record { table = concrete 4 0 scalar ∷ concrete 4 0 scalar ∷ []; choices = rust }

-- two leaves of different types, and a strict one
three : Nodes
three = record { first = leaf (fixed 4) false 0; others = leaf (fixed 4) false 1 ∷ leaf (fixed 4) true 1 ∷ [] }

-- the first two alone have a conflict, and what they come to is not strict
two : Usage
two = leaf (fixed 4) false 1

first_two : merge_mem setting (leaf (fixed 4) false 0) (leaf (fixed 4) false 1) ≡ done two (0x32 ∷ []) 1
unfolding setting two merge_mem place place_in supports supports_in when◌then◌else◌ command_at
first_two = refl

all_three : fold setting three ≡ done (leaf (fixed 4) true 1) (0x38 ∷ bytes 2 1 ++ 0x32 ∷ []) 2
unfolding setting three fold merge_mem place place_in supports supports_in when◌then◌else◌ command_at
all_three = refl

-- so the usage that the first two come to is not what the three do, whatever is reported and counted
not_two_of_three : (w : List ℕ) (p : ℕ) → fold setting three ≡ done two w p → ⊥
unfolding two
not_two_of_three w p e = let z : ◌≡◌ {A = ℕ} 0 1 = cc all_three in omega arith

-- The call

list : List ℕ
list = write_list three

answer : fold_call rust table work_limit list (replicate 12 7) 5 ≡ record {
  answer = record { number = 0; yes = false; usage = 11; report = 4; pairings = 2 };
  output = write_top (memory (leaf (fixed 4) true 1)) ++ 7 ∷ [];
  report = 0x38 ∷ 1 ∷ 0 ∷ 0x32 ∷ 0 ∷ [];
}
unfolding table three list fold_call table_of list_of read_node read_node_in fold merge_mem place place_in supports supports_in when◌then◌else◌ command_at
answer = refl

-- the table, with the starts of its records, and the choices of the source
lent : CodeSetting
lent = record {
  table = record { bytes = record { ref_ptr = (0, 0); now = table }; starts = record { ref_ptr = (0, 0); now = 2 ∷ 11 ∷ [] } };
  choices = RUST;
}

placed : (ty : ℕ) → ty < 2 → Located lent.table setting.table ty
unfolding lent table setting when◌then◌else◌
placed zero l = record { kept = omega arith; rest = bytes 1 0x20 ++ bytes 4 4 ++ bytes 4 0; stands = refl; admits = refl }
placed (suc zero) l = record { kept = omega arith; rest = []; stands = refl; admits = refl }
placed (suc (suc ty)) l = absurd (omega arith)

ready : (work : List ℕ) → length work ≡ work_limit → FoldReady lent list work
unfolding choices_in lent table setting three list table_of list_of read_node read_node_in when◌then◌else◌ command_at
ready work area = record {
  setting = setting;
  listed = three;
  foldable = record {
    known = record { read = refl; placed = placed; chosen = refl };
    is = refl;
    fits = ((omega arith, omega arith), ((omega arith, omega arith), ((omega arith, omega arith), tt)));
    few = omega arith;
  };
  area = area;
}
