-- `stream_load::load_nodes` meets its contract: each turn takes one node out of the bytes that are left.
use Prim.Native.Nat.{◌≤◌}
use mathlib.Core.Path.{◌≡◌}
use lib.ListN.{length}
use Rattle.numbers.specs.Words.{Width}
use Rattle.stream_load.specs.Loading.{KeptBelow}
use Rattle.stream_load.proofs.Loading.{Loads}
use Rattle.stream_load.proofs.load_nodes.Given as goal

abbrev pub invariant-loop-i : goal.invariant-loop-i
invariant-loop-i l = Loads l.s l.at l.p l.work l.q l.i-end l.i l.front × KeptBelow l.q l.initial.work l.work × Width l.front × (l.q ≤ l.i) × (l.i ≤ l.i-end) × (l.p ≤ length l.s) × (length l.work ≡ length l.initial.work)
