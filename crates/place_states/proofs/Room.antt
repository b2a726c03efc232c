-- A placing's pairings stay few at every step, whatever comes of it: each is paid for by a pair of nodes that has not been met before.
-- Assumes nothing.
use Rattle.std.proofs.Common.{◌≡◌, ℕ, ◌+◌, ◌*◌, ◌^◌, ◌≤◌, refl, mul-le-mul, arith}
use Rattle.definitions.specs.Usage.{Size, Usage, Entries, none, entry, nodes, ◌<+>◌}
use Rattle.definitions.specs.Inner.Pairs.{pairs}
use Rattle.definitions.specs.Table.{Setting}
use Rattle.definitions.specs.Place.{Result, refused, done, place}
use Rattle.definitions.proofs.Nodes.{append_nodes}
use Rattle.definitions.proofs.Bound.{append_pairs}
use Rattle.definitions.proofs.Demand.{few_pairs}
use Rattle.definitions.proofs.FewPairings.{place_few}
use Rattle.place_states.specs.Continuation.{joins, spare}
use Rattle.place_states.specs.States.{Short}

-- where a placing begins
pub room_first : (t u : Usage) → nodes t + nodes u ≤ 65536 → pairs t + pairs u + nodes t * nodes u ≤ 2 ^ 32
room_first t u le = omega (arith, few_pairs t, few_pairs u, mul-le-mul le le)

-- rule 6: the last of the entries that are to be joined
pub spare_last : (z : Size) (low mid high init : Entries) (d d' o n : ℕ) (u : Usage) → mid ≡ init <+> entry o u none
    → spare (joins z low mid high d) n ≡ pairs u + n * nodes u + spare (joins z low init high d') (n + nodes u)
spare_last z low mid high init d d' o n u e = rw e (simp (append_nodes, append_pairs) (omega arith))

-- the whole of a placing: its report is short
pub place_short : (setting : Setting) (a : Usage) (d : ℕ) (b : Usage) (at : ℕ) → nodes a + nodes b ≤ 65536 → at ≤ 2 ^ 62 → Short at (place setting a d b)
place_short setting a d b at le low = go (place setting a d b) refl
  where
    go : (x : Result Usage) → place setting a d b ≡ x → Short at x
    go (refused k) e = tt
    go (done u w p) e = let few = place_few setting a d b e le in (omega (arith, few), omega (arith, few))
