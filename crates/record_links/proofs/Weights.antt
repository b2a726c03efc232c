-- The nodes that are linked below a record are the nodes of the usage there.
-- Assumes nothing.
use Prim.Native.Nat.{ℕ, zero, suc, ◌+◌, ◌≤◌, ◌<◌}
use mathlib.Core.Bool.{true, false}
use mathlib.Core.Path.{◌≡◌, refl, ap, ◌∙◌}
use mathlib.Core.List.{List}
use native.Mathlib.Omega.{arith}
use lib.Dec.{eqb}
use Rattle.definitions.specs.If.{when◌then◌else◌}
use Rattle.definitions.specs.Usage.{Usage, unused, leaf, map, array, Entries, none, entry, nodes, nodes_in}
use Rattle.definitions.proofs.Nodes.{some_node}
use Rattle.records.specs.Records.{command_in, next_in, child_in}
use Rattle.record_links.specs.Standing.{Stands, Row}
use Rattle.record_links.specs.Rows.{weigh, weigh_row, nodes_at}
use Rattle.record_links.proofs.Stands.{stands_root}

-- by its command: an array, a map, or neither

weigh_array : (k : ℕ) (s : List ℕ) (q : ℕ) → command_in s q ≡ 4 → weigh (suc k) s q ≡ suc (weigh k s (child_in s q))
unfolding weigh when◌then◌else◌
weigh_array k s q e = rw e

weigh_map : (k : ℕ) (s : List ℕ) (q : ℕ) → command_in s q ≡ 3 → weigh (suc k) s q ≡ suc (weigh_row k s (child_in s q))
unfolding weigh when◌then◌else◌
weigh_map k s q e = rw e

weigh_one : (k : ℕ) (s : List ℕ) (q c : ℕ) → command_in s q ≡ c → eqb c 4 ≡ false → eqb c 3 ≡ false → weigh (suc k) s q ≡ 1
unfolding weigh when◌then◌else◌
weigh_one k s q c e n4 n3 = rw (e, n4, n3)

-- a step for each node, and one for each row
mutual
  unfolding Stands weigh

  weigh_stands : (k : ℕ) (u : Usage) (s : List ℕ) (q : ℕ) (r : ℕ → ℕ) (lo hi : ℕ) → nodes u + nodes u ≤ k → Stands u s q r lo hi → weigh k s q ≡ nodes u
  weigh_stands zero u s q r lo hi le h = absurd (omega (arith, some_node u))
  weigh_stands (suc k) (unused z) s q r lo hi le h = weigh_one k s q 0 h.command refl refl
  weigh_stands (suc k) (leaf z true t) s q r lo hi le h = weigh_one k s q 1 h.0.command refl refl
  weigh_stands (suc k) (leaf z false t) s q r lo hi le h = weigh_one k s q 2 h.0.command refl refl
  weigh_stands (suc k) (map z es) s q r lo hi le h = weigh_map k s q h.0.command ∙ ap suc (weigh_row_lem k es s (child_in s q) r (suc (r q)) hi (omega arith) h.2)
  weigh_stands (suc k) (array z n e) s q r lo hi le h = weigh_array k s q h.0.command ∙ ap suc (weigh_stands k e s (child_in s q) r (suc (r q)) hi (omega arith) h.2)

  weigh_row_lem : (k : ℕ) (es : Entries) (s : List ℕ) (q : ℕ) (r : ℕ → ℕ) (lo hi : ℕ) → nodes_in es + nodes_in es < k → Row es s q 0 r lo hi → weigh_row k s q ≡ nodes_in es
  weigh_row_lem zero es s q r lo hi lt h = absurd (omega arith)
  weigh_row_lem (suc k) none s zero r lo hi lt h = refl
  weigh_row_lem (suc k) none s (suc q) r lo hi lt h = absurd (omega (arith, h.0))
  weigh_row_lem (suc k) (entry o u es) s zero r lo hi lt h = absurd (omega (arith, (stands_root u s 0 r lo h.0 h.2).some))
  weigh_row_lem (suc k) (entry o u es) s (suc q) r lo hi lt h =
      let n = some_node u in
      let a : weigh k s (suc q) ≡ nodes u = weigh_stands k u s (suc q) r lo h.0 (omega arith) h.2 in
      let b : weigh_row k s (next_in s (suc q)) ≡ nodes_in es = weigh_row_lem k es s (next_in s (suc q)) r h.0 hi (omega arith) h.3 in
      omega (arith, a, b)

pub nodes_at_lem : (u : Usage) (s : List ℕ) (q : ℕ) (r : ℕ → ℕ) (lo hi : ℕ) → Stands u s q r lo hi → nodes u < 65536 → nodes_at s q ≡ nodes u
unfolding nodes_at
nodes_at_lem u s q r lo hi h lt = weigh_stands 131072 u s q r lo hi (omega arith) h
