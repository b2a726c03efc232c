-- Usages in records one behind the other: their roots, and entries behind one another, by cases and by induction on the entries.
-- Assumes nothing.
use Prim.Native.Nat.{ℕ, ◌+◌}
use mathlib.Core.Path.{◌≡◌}
use mathlib.Core.List.{List}
use native.Mathlib.Omega.{arith}
use Rattle.definitions.specs.Usage.{Usage, unused, leaf, map, array, Entries, none, entry, nodes, nodes_in, ◌<+>◌}
use Rattle.records.specs.Usages.{Root, At, EntriesAt}

pub root_of : (u : Usage) (s : List ℕ) (q o : ℕ) → At u s q o → (t : ℕ) × Root u t s q o
unfolding At
root_of (unused z) s q o r = r
root_of (leaf z k t) s q o r = (t, r)
root_of (map z es) s q o r = r.0
root_of (array z n e) s q o r = (n, r.0)

pub one_entry : (o : ℕ) (u : Usage) (s : List ℕ) (q : ℕ) → At u s q o → EntriesAt (entry o u none) s q
unfolding At
one_entry o u s q r = (r, tt)

pub entries_join : (x y : Entries) (s : List ℕ) (q : ℕ) → EntriesAt x s q → EntriesAt y s (q + nodes_in x) → EntriesAt (x <+> y) s q
unfolding At
entries_join none y s q rx ry = let e : q + 0 ≡ q = omega arith in rw e at ry
entries_join (entry o u x) y s q rx ry =
    let e : q + (nodes u + nodes_in x) ≡ q + nodes u + nodes_in x = omega arith in
    (rx.0, entries_join x y s (q + nodes u) rx.1 (rw e at ry))
