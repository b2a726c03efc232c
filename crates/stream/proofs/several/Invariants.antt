-- `several` meets its contract: the loop keeps that the nodes that are left, with the sums so far, tell what all of them do.
use Prim.Native.Nat.{◌-◌}
use mathlib.Core.Path.{◌≡◌}
use lib.ListN.{length}
use Rattle.stream.proofs.Listing.{Listing}
use Rattle.stream.proofs.several.Given as goal

abbrev pub invariant-loop : goal.invariant-loop
invariant-loop l = (length l.window ≡ length l.initial.window) × Listing l.s l.from l.count l.at l.nodes l.types (l.count - l.counter)
