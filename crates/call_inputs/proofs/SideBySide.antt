-- Two usages are loaded one behind the other: there are records for both, and the second stands past all of the first.
-- Assumes nothing.
use Prim.Native.Nat.{ℕ, ◌+◌}
use mathlib.Core.Path.{◌≡◌, refl}
use mathlib.Core.List.{List, []}
use native.Mathlib.Omega.{arith}
use lib.ListN.{length}
use Rattle.record_links.proofs.Stands.{stands_still}
use Rattle.stream_load.specs.Loading.{Loaded, by_number}
use Rattle.call_inputs.specs.Inputs.{BothLoaded}
use Rattle.call_inputs.specs.declared.Nodes.{Nodes}

module _ {first second : List ℕ} {n : Nodes} {work : List ℕ} where
  pub both_loaded : {work₁ work₂ : List ℕ} {r r₁ : ℕ} → length work₂ ≡ length work₁ → Loaded first 1 work 1 work₁ r → Loaded second 1 work₁ (1 + n.first) work₂ r₁
      → BothLoaded first second n work work₂
  unfolding by_number
  both_loaded {work₁} {work₂} same left right = record {
    left = λ a e many. stands_still a work₁ work₂ 1 by_number by_number 1 (1 + n.first) same (λ i low high. (right.kept i (omega arith), refl)) (rw many at (left.stands a [] e));
    right = λ b e many. rw many at (right.stands b [] e);
  }
