-- `stream_load::link_entries` meets its contract: each turn links one entry to the next, and the last one is linked to none already.
use Prim.Native.Nat.{◌≤◌}
use mathlib.Core.Path.{◌≡◌}
use lib.ListN.{length}
use Rattle.stream_load.proofs.Tying.{Ties}
use Rattle.stream_load.proofs.link_entries.Given as goal

abbrev pub invariant-loop-i : goal.invariant-loop-i
invariant-loop-i l = Ties l.initial.s l.s l.q l.k l.p l._i × (l._i ≤ l.k) × (length l.s ≡ length l.initial.s)
