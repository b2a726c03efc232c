-- `stream_load::link_nodes` meets its contract: from record i on all is linked, and each turn links one record more.
use Prim.Native.Nat.{◌+◌, ◌≤◌}
use mathlib.Core.Path.{◌≡◌}
use lib.ListN.{length}
use Rattle.stream_load.proofs.Backwards.{Linking}
use Rattle.stream_load.proofs.link_nodes.Given as goal

abbrev pub invariant-loop-i : goal.invariant-loop-i
invariant-loop-i l = Linking l.initial.work l.work l.q l.n l.i × (l.q ≤ l.i) × (l.i ≤ l.q + l.n) × (length l.work ≡ length l.initial.work)
