-- The contract is of use: a stream of four nodes can be loaded, and what is loaded stands, linked and in preorder.
-- Assumes nothing.
use Prim.Native.Nat.{ℕ}
use mathlib.Core.Path.{◌≡◌, refl}
use mathlib.Core.Bool.{false}
use mathlib.Core.List.{List, [], append-nil}
use native.Mathlib.Omega.{arith}
use lib.ListN.{replicate}
use Rattle.definitions.specs.Usage.{fixed, dynamic, Usage, unused, leaf, map, array, none, entry}
use Rattle.definitions.specs.Command.{command_at}
use Rattle.definitions.specs.Stream.{write_node, read, read_node}
use Rattle.definitions.proofs.Rounds.{write_read}
use Rattle.records.specs.Usages.{At}
use Rattle.record_links.specs.Standing.{Stands}
use Rattle.stream_load.specs.Loading.{Loadable, Loaded, by_number}

sample : Usage
sample = map (fixed 8) (entry 0 (leaf (fixed 4) false 1) (entry 4 (array dynamic 2 (unused (fixed 2))) none))

reads : read_node (write_node sample) ≡ read sample []
unfolding sample command_at
reads = rw append-nil at (write_read sample [] (omega arith))

loadable : Loadable (write_node sample) 0 4 (replicate 160 0) 1
unfolding sample
loadable = record {
  usage = sample;
  rest = [];
  reads = reads;
  many = refl;
  some = omega arith;
  inside = omega arith;
  few = omega arith;
}

stands : {work : List ℕ} {r : ℕ} → Loaded (write_node sample) 0 (replicate 160 0) 1 work r → Stands sample work 1 by_number 1 5 × At sample work 1 0
unfolding sample
stands L = (L.stands sample [] reads, L.run sample [] reads)
