-- What `supports` answers, by what was found of the table and of the stream: the refusals in their order, then what is said of the
-- usage that was loaded, which is the one that was read.
-- Assumes nothing.
use Prim.Native.Nat.{ℕ, suc, max, ◌+◌, ◌<◌, ◌≤◌}
use mathlib.Core.Path.{◌≡◌, sym}
use mathlib.Core.Bool.{Bool, true, false, not}
use mathlib.Core.List.{List, []}
use mathlib.Core.Option.{none as nothing}
use native.Mathlib.Omega.{arith}
use borrow.Author.Tests.{lt-ltb, le-ltb, le-leb, lt-leb}
use lib.Dec.{ltb, leb}
use lib.ListN.{length}
use Rattle.std.specs.Prelude.{Err}
use Rattle.definitions.specs.If.{when◌then◌else◌}
use Rattle.definitions.specs.Limits.{node_limit, work_limit}
use Rattle.definitions.specs.Usage.{nodes}
use Rattle.definitions.specs.Stream.{memory_of}
use Rattle.definitions.specs.Table.{Setting, layout_of, is_concrete}
use Rattle.definitions.specs.Place.{done}
use Rattle.definitions.specs.Support.{supports}
use Rattle.definitions.specs.Calls.{refuse_if, refusal, said, supports_call}
use Rattle.qptr.specs.Choices.{choices_in}
use Rattle.qptr.specs.declared.choices.Choices.{Choices}
use Rattle.layout.specs.Located.{Holds, Says}
use Rattle.layout.specs.declared.setting.Setting.{Setting as CodeSetting}
use Rattle.layout.specs.declared.table.Table.{Table as CodeTable}
use Rattle.layout.proofs.Uses.{known}
use Rattle.stream_load.specs.Loading.{Loaded, by_number}
use Rattle.support.specs.Askable.{Askable}
use Rattle.support.specs.Supported.{Supports}
use Rattle.call_answers.specs.Answers.{said_of}
use Rattle.call_answers.specs.declared.Refusal.{Refusal}
use Rattle.call_inputs.specs.Inputs.{Begun, TableMet}
use Rattle.call_inputs.proofs.Types.{types_in_lem, one_within, both_within}
use Rattle.call_inputs.proofs.Refusals.{table_refused, good_table}
use Rattle.calls.proofs.Memories.{Memory}

-- The refusals

pub supports_tableless : {table starts : List ℕ} {work : ℕ} {e : Refusal} → TableMet table work starts (Err e) → (ch : Choices) (ty offset : ℕ) (s : List ℕ)
    → said_of (Err e) ≡ supports_call (choices_in ch) table work ty offset s
unfolding supports_call
supports_tableless met ch ty offset s = rw (table_refused _ met)

module _ {table starts : List ℕ} {work k : ℕ} (t : Begun table work starts k) (ch : Choices) (ty : ℕ) where
  abbrev setting : Setting
  setting = record { table = t.records.layouts; choices = choices_in ch }

  pub supports_broken : (offset : ℕ) (s : List ℕ) → memory_of s ≡ nothing → supports_call (choices_in ch) table work ty offset s ≡ refusal 3
  unfolding supports_call
  supports_broken offset s e = rw (good_table _ t, e)

  module _ (offset : ℕ) {s : List ℕ} {n b : ℕ} (m : Memory s n b) where
    asked : supports_call (choices_in ch) table work ty offset s
        ≡ said
        (refuse_if (not (leb (max (suc ty) b) k)) 5
        (refuse_if (not (is_concrete (layout_of t.records.layouts ty))) 6
        (refuse_if (ltb node_limit n) 7 (done (supports setting ty offset m.usage) [] 0))))
    unfolding supports_call
    asked = rw (good_table _ t, m.is, types_in_lem t.records.layouts m.usage, t.records.count, ← m.bounded, ← m.counted, one_within ty k, both_within (suc ty) b k)

    pub supports_unknown : {needed wide : ℕ} → needed ≡ max b (wide + 1) → wide ≡ ty → k < needed → supports_call (choices_in ch) table work ty offset s ≡ refusal 5
    unfolding when◌then◌else◌
    supports_unknown is same h = rw (asked, lt-leb (max (suc ty) b) k (omega arith))

    module _ {needed wide : ℕ} (is : needed ≡ max b (wide + 1)) (same : wide ≡ ty) (within : needed ≤ k) {lent : CodeTable} (holds : Holds lent table starts k) where
      abbrev code : CodeSetting
      code = record { table = lent; choices = ch }

      below : ty < k
      below = omega arith

      known_is : leb (max (suc ty) b) k ≡ true
      known_is = le-leb (max (suc ty) b) k (omega arith)

      module _ {r : Bool} (says : Says is_concrete lent ty r) where
        concrete_is : is_concrete (layout_of t.records.layouts ty) ≡ r
        concrete_is = sym (says.is t.records.layouts (t.records.placed lent holds ty (omega (arith, t.records.count))))

        pub supports_abstract : r ≡ false → supports_call (choices_in ch) table work ty offset s ≡ refusal 6
        unfolding when◌then◌else◌
        supports_abstract e = rw (asked, known_is, concrete_is, e)

        pub supports_many : r ≡ true → node_limit < n → supports_call (choices_in ch) table work ty offset s ≡ refusal 7
        unfolding when◌then◌else◌
        supports_many e more = rw (asked, known_is, concrete_is, e, lt-ltb node_limit n more)

        pub supports_said : r ≡ true → n ≤ node_limit → supports_call (choices_in ch) table work ty offset s ≡ said (done (supports setting ty offset m.usage) [] 0)
        unfolding when◌then◌else◌
        supports_said e few = rw (asked, known_is, concrete_is, e, le-ltb node_limit n few)

      -- the usage that is loaded stands in the work area, and is asked about there

      module _ {area area' : List ℕ} {end : ℕ} (loaded : Loaded s 1 area 1 area' end) where
        pub memory_askable : n ≤ node_limit → work_limit ≤ length area' → Askable code ty area' 1
        memory_askable few enough = record {
          type = record { setting = setting; known = known t.records holds; below = omega (arith, t.records.count, below) };
          usage = record {
            usage = m.usage;
            rank = by_number;
            lo = 1;
            hi = 1 + nodes m.usage;
            stands = loaded.stands m.usage [] m.reads;
            few = omega (arith, m.counted);
            within = omega arith;
            numbered = omega arith;
          };
        }

        pub memory_supported : {r : Bool} → Supports code ty offset area' 1 r → r ≡ supports setting ty offset m.usage
        memory_supported says =
            says.is setting (known t.records holds) (omega (arith, t.records.count, below)) m.usage by_number 1 (1 + nodes m.usage) (loaded.stands m.usage [] m.reads)
