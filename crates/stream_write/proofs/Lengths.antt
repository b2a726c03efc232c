-- A usage's written form is no longer than fourteen bytes for each of its nodes: its own part takes ten at most, an offset four.
-- Assumes nothing.
use Prim.Native.Nat.{◌+◌, ◌*◌, ◌≤◌}
use mathlib.Core.List.{◌++◌}
use native.Mathlib.Omega.{arith}
use lib.ListN.{length, length-append}
use Rattle.definitions.specs.Usage.{Usage, unused, leaf, map, array, Entries, none, entry, nodes, nodes_in}
use Rattle.definitions.specs.Command.{head_of}
use Rattle.definitions.specs.Stream.{bytes, write_head, write_node, write_entries}
use Rattle.definitions.proofs.Numbers.{bytes_length}
use Rattle.numbers.proofs.Widths.{head_length, own_small}

own_bytes : (u : Usage) → length (write_head (head_of u)) ≤ 10
own_bytes u = omega (arith, head_length (head_of u), own_small u)

mutual
  pub written_bytes : (u : Usage) → length (write_node u) + 4 ≤ 14 * nodes u
  written_bytes (unused s) = omega (arith, own_bytes (unused s))
  written_bytes (leaf s k t) = omega (arith, own_bytes (leaf s k t))
  written_bytes (map s es) =
      omega (arith, own_bytes (map s es), length-append (write_head (head_of (map s es))) (write_entries es), entries_bytes es)
  written_bytes (array s n e) =
      omega (arith, own_bytes (array s n e), length-append (write_head (head_of (array s n e))) (write_node e), written_bytes e)

  entries_bytes : (es : Entries) → length (write_entries es) ≤ 14 * nodes_in es
  entries_bytes none = omega arith
  entries_bytes (entry o u es) =
      omega (
        arith,
        length-append (bytes 4 o ++ write_node u) (write_entries es),
        length-append (bytes 4 o) (write_node u),
        bytes_length 4 o,
        written_bytes u,
        entries_bytes es,
      )
