-- Who receives, by what is told of the two streams: nobody of a broken stream or too many nodes, else as the own parts say.
-- Assumes nothing.
use Prim.Native.Nat.{ℕ, ◌+◌, ◌<◌, ◌≤◌}
use mathlib.Core.Path.{◌≡◌, refl}
use mathlib.Core.Bool.{Bool, true, false}
use mathlib.Core.List.{List, []}
use mathlib.Core.Option.{Option, none as nothing, some}
use native.Mathlib.Omega.{arith}
use borrow.Author.Tests.{lt-ltb, le-ltb}
use Rattle.std.specs.Prelude.{Result as Returned, Ok, Err}
use Rattle.std.specs.Result.{is_ok}
use Rattle.definitions.specs.If.{when◌then◌else◌}
use Rattle.definitions.specs.Limits.{node_limit}
use Rattle.definitions.specs.Usage.{nodes}
use Rattle.definitions.specs.Stream.{memory_of}
use Rattle.definitions.specs.Place.{Result, refused, done}
use Rattle.definitions.specs.Calls.{receiver_of, part_of, receiver_call}
use Rattle.qptr.specs.Choices.{choices_in}
use Rattle.qptr.specs.Values.{Receives}
use Rattle.qptr.specs.declared.choices.Choices.{Choices}
use Rattle.qptr.specs.declared.Node.{Node}
use Rattle.call_answers.specs.declared.Refusal.{Refusal}
use Rattle.call_inputs.specs.Inputs.{FewNodes}
use Rattle.calls.specs.Received.{answered}
use Rattle.calls.specs.Roots.{RootOf}

-- whether there are few nodes, by whether 7 was met

pub many_told : {n : ℕ} (r : Returned (Unit {0}) Refusal) → FewNodes n r → false ≡ is_ok r → node_limit < n
many_told (Ok u) met e = cc
many_told (Err e) met f = met.1

pub few_told : {n : ℕ} (r : Returned (Unit {0}) Refusal) → FewNodes n r → true ≡ is_ok r → n ≤ node_limit
few_told (Ok u) met e = met
few_told (Err e) met f = cc

module _ (ch : Choices) (first second : List ℕ) where
  pub bad_first : memory_of first ≡ nothing → receiver_of (choices_in ch) first second ≡ refused 3
  unfolding receiver_of
  bad_first e = rw e

  module _ {n : ℕ} {x : Node} (a : RootOf first n x) where
    pub bad_second : memory_of second ≡ nothing → receiver_of (choices_in ch) first second ≡ refused 4
    unfolding receiver_of
    bad_second e = rw (a.is, e)

    module _ {m : ℕ} {y : Node} (b : RootOf second m y) where
      pub too_many : node_limit < n + m → receiver_of (choices_in ch) first second ≡ refused 7
      unfolding receiver_of when◌then◌else◌
      too_many h = rw (a.is, b.is, lt-ltb node_limit (nodes a.usage + nodes b.usage) (omega arith))

      pub received : n + m ≤ node_limit → {r : Bool} → Receives ch x y r → receiver_of (choices_in ch) first second ≡ done r [] 0
      unfolding receiver_of when◌then◌else◌
      received h says =
          rw (a.is, b.is, le-ltb node_limit (nodes a.usage + nodes b.usage) (omega arith), says.of a.usage b.usage a.own b.own)

-- the part that is handed back
abbrev part_by : Option Bool → List ℕ → List ℕ → List ℕ
part_by nothing first second = []
part_by (some true) first second = first
part_by (some false) first second = second

part_is : (r : Result Bool) (first second : List ℕ) → part_by (answered r) first second ≡ part_of r first second
part_is (refused k) first second = refl
part_is (done true w p) first second = refl
part_is (done false w p) first second = refl

pub handed : {x : Option Bool} (ch : Choices) (first second : List ℕ) → x ≡ answered (receiver_of (choices_in ch) first second)
    → part_by x first second ≡ receiver_call (choices_in ch) first second
unfolding receiver_call
handed ch first second e = rw e (part_is (receiver_of (choices_in ch) first second) first second)
