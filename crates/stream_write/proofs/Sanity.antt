-- The contracts are of use: a usage that is linked in bytes may be written wherever there is room, and its stream then stands there.
-- Assumes nothing.
use Prim.Native.Nat.{ℕ, ◌+◌, ◌≤◌}
use mathlib.Core.Path.{◌≡◌}
use mathlib.Core.List.{List}
use native.Mathlib.Omega.{arith}
use lib.ListN.{length}
use lib.Seq.{sets}
use Rattle.definitions.specs.Command.{command_at}
use Rattle.definitions.specs.Stream.{write_node}
use Rattle.record_links.proofs.Stands.{stands_root}
use Rattle.record_links.proofs.Sanity.{worked, sample, stands}
use Rattle.stream_write.specs.Writing.{Readable, Fitting, LengthIs, UsagePut}

readable : Readable worked 1
unfolding sample
readable = record {
  usage = sample;
  rank = λ i. i;
  lo = 1;
  hi = 5;
  stands = stands;
  inside = (stands_root sample worked 1 (λ i. i) 1 5 stands).inside;
  small = omega arith;
}

-- in 1 + 5 + 2 bytes for the map, 4 for each offset, 10 for each of the others
measured : (r : ℕ) → LengthIs worked 1 r → r ≡ 46
unfolding sample command_at
measured r L = L.of sample (λ i. i) 1 5 stands

fitting : (out : List ℕ) (at : ℕ) → at + 46 ≤ length out → Fitting worked 1 out at
unfolding sample readable command_at
fitting out at room = record { standing = readable; room = room }

written : (out : List ℕ) (at : ℕ) (out' : List ℕ) (r : ℕ) → UsagePut worked 1 out at out' r → out' ≡ sets out at (write_node sample)
written out at out' r W = (W.of sample (λ i. i) 1 5 stands).stored
