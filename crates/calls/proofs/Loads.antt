-- A Memory whose nodes are not too many has room in the work area, and the usage that is loaded is the one that was read.
-- Assumes nothing.
use Prim.Native.Nat.{ℕ, ◌≤◌}
use mathlib.Core.List.{List, []}
use native.Mathlib.Omega.{arith}
use lib.ListN.{length}
use Rattle.definitions.specs.Limits.{node_limit, work_limit}
use Rattle.records.specs.Usages.{At}
use Rattle.stream_load.specs.Loading.{Loadable, Loaded}
use Rattle.calls.proofs.Memories.{Memory}

module _ {s : List ℕ} {n b : ℕ} (m : Memory s n b) {work : List ℕ} where
  pub loadable : n ≤ node_limit → work_limit ≤ length work → Loadable s 1 n work 1
  loadable few enough =
      record { usage = m.usage; rest = []; reads = m.reads; many = search; some = omega arith; inside = omega arith; few = omega arith }

  pub usage_at : {work' : List ℕ} {end : ℕ} → Loaded s 1 work 1 work' end → At m.usage work' 1 0
  usage_at loaded = loaded.run m.usage [] m.reads
