-- What `sound` answers, by what was found of the table and of the stream: the refusals in their order, then what is said of the usage
-- that was loaded, which is the one that was read.
-- Assumes nothing.
use Prim.Native.Nat.{ℕ, ◌<◌, ◌≤◌}
use mathlib.Core.Path.{◌≡◌}
use mathlib.Core.Bool.{Bool}
use mathlib.Core.List.{List, []}
use mathlib.Core.Option.{none as nothing}
use native.Mathlib.Omega.{arith}
use borrow.Author.Tests.{le-leb, lt-leb}
use lib.Dec.{leb}
use lib.ListN.{length}
use Rattle.std.specs.Prelude.{Ok, Err}
use Rattle.definitions.specs.Limits.{node_limit, work_limit}
use Rattle.definitions.specs.Stream.{memory_of}
use Rattle.definitions.specs.Place.{Result, done}
use Rattle.definitions.specs.Sound.{sound}
use Rattle.definitions.specs.Calls.{checked, refusal, said, sound_call}
use Rattle.stream_load.specs.Loading.{Loaded}
use Rattle.soundness.specs.Preorder.{UsageFrom, Tested}
use Rattle.call_answers.specs.Answers.{said_of}
use Rattle.call_answers.specs.declared.Refusal.{Refusal}
use Rattle.call_inputs.specs.Inputs.{Begun, TableMet}
use Rattle.call_inputs.proofs.Types.{types_in_lem}
use Rattle.call_inputs.proofs.Refusals.{table_refused, good_table, unknown_type, many_nodes, few_nodes}
use Rattle.calls.proofs.Memories.{Memory}
use Rattle.calls.proofs.Loads.{usage_at}

-- The refusals

pub sound_tableless : {table starts : List ℕ} {work : ℕ} {e : Refusal} → TableMet table work starts (Err e) → (s : List ℕ) → said_of (Err e) ≡ sound_call table work s
unfolding sound_call
sound_tableless met s = rw (table_refused _ met)

module _ {table starts : List ℕ} {work k : ℕ} (t : Begun table work starts k) where
  pub sound_broken : (s : List ℕ) → memory_of s ≡ nothing → sound_call table work s ≡ refusal 3
  unfolding sound_call
  sound_broken s e = rw (good_table _ t, e)

  module _ {s : List ℕ} {n b : ℕ} (m : Memory s n b) where
    abbrev tested : Result Bool
    tested = done (sound m.usage) [] 0

    asked : sound_call table work s ≡ said (checked (leb b k) n tested)
    unfolding sound_call
    asked = rw (good_table _ t, m.is, types_in_lem t.records.layouts m.usage, t.records.count, ← m.bounded, ← m.counted)

    pub sound_unknown : k < b → sound_call table work s ≡ refusal 5
    sound_unknown h = rw (asked, unknown_type (leb b k) n tested (lt-leb b k h))

    module _ (known : b ≤ k) where
      pub sound_many : node_limit < n → sound_call table work s ≡ refusal 7
      sound_many more = rw (asked, many_nodes (leb b k) n tested (le-leb b k known) more)

      -- the usage that is loaded stands in the work area, and is tested there

      module _ (few : n ≤ node_limit) {area area' : List ℕ} {end : ℕ} (loaded : Loaded s 1 area 1 area' end) where
        pub sound_standing : work_limit ≤ length area' → UsageFrom area' 1
        sound_standing enough = record {
          usage = m.usage;
          offset = 0;
          stands = usage_at m loaded;
          inside = omega (arith, m.counted);
          few = omega (arith, m.counted);
        }

        pub sound_said : {r : Bool} → Tested area' 1 r → said_of (Ok r) ≡ sound_call table work s
        sound_said says = rw (says.of m.usage 0 (usage_at m loaded), asked, few_nodes (leb b k) n tested (le-leb b k known) few)
