-- Linked usages: they stand wherever their records do, whatever comes next to their roots; and they stand in preorder, and as
-- linked records with their numbers for ranks.
-- Assumes nothing.
use Prim.Native.Nat.{ℕ, suc, ◌+◌, ◌*◌, ◌<◌, ◌≤◌}
use mathlib.Core.Path.{◌≡◌, ap, ◌∙◌}
use mathlib.Core.List.{List}
use native.Mathlib.Omega.{arith}
use lib.ListN.{length}
use Rattle.definitions.specs.Usage.{Size, Usage, unused, leaf, map, array, Entries, none, entry, size, nodes, nodes_in, ◌<+>◌}
use Rattle.definitions.specs.Command.{head_of}
use Rattle.definitions.proofs.Nodes.{some_node}
use Rattle.records.specs.Records.{next_in, child_in, count_in, Cell, cell, with_next, full}
use Rattle.records.specs.Usages.{Holds, At, EntriesAt}
use Rattle.record_links.specs.Standing.{Root, reached, Stands, Row}
use Rattle.stream_load.specs.Loading.{first_of, RootLinked, Linked, EntriesLinked, Apart, by_number}

-- Moving

mutual
  unfolding Linked

  pub linked_with : (u : Usage) (s s' : List ℕ) (q o : ℕ) → with_next 0 (cell s' q) ≡ with_next 0 (cell s q)
      → ((j : ℕ) → q < j → j < q + nodes u → cell s' j ≡ cell s j) → Linked u s q o → Linked u s' q o
  linked_with (unused z) s s' q o e h r = e ∙ r
  linked_with (leaf z k t) s s' q o e h r = e ∙ r
  linked_with (map z es) s s' q o e h r = (e ∙ r.0, entries_move es s s' (suc q) (λ j a b. h j (omega arith) (omega arith)) r.1)
  linked_with (array z n x) s s' q o e h r =
      (e ∙ r.0, linked_with x s s' (suc q) 0 (ap (with_next 0) (h (suc q) (omega arith) (omega (arith, some_node x)))) (λ j a b. h j (omega arith) (omega arith)) r.1)

  pub entries_move : (es : Entries) (s s' : List ℕ) (q : ℕ) → ((j : ℕ) → q ≤ j → j < q + nodes_in es → cell s' j ≡ cell s j)
      → EntriesLinked es s q → EntriesLinked es s' q
  entries_move none s s' q h r = tt
  entries_move (entry o u es) s s' q h r =
      let here : cell s' q ≡ cell s q = h q (omega arith) (omega (arith, some_node u)) in (
        linked_with u s s' q o (ap (with_next 0) here) (λ j a b. h j (omega arith) (omega arith)) r.0,
        ap (λ (x : Cell). x.next) here ∙ r.1,
        entries_move es s s' (q + nodes u) (λ j a b. h j (omega arith) (omega arith)) r.2,
      )

pub apart_move : (es : Entries) (s s' : List ℕ) (q : ℕ) → ((j : ℕ) → q ≤ j → j < q + nodes_in es → cell s' j ≡ cell s j) → Apart es s q → Apart es s' q
unfolding Apart
apart_move none s s' q h r = tt
apart_move (entry o u es) s s' q h r =
    let here : cell s' q ≡ cell s q = h q (omega arith) (omega (arith, some_node u)) in (
      linked_with u s s' q o (ap (with_next 0) here) (λ j a b. h j (omega arith) (omega arith)) r.0,
      ap (λ (x : Cell). x.next) here ∙ r.1,
      apart_move es s s' (q + nodes u) (λ j a b. h j (omega arith) (omega arith)) r.2,
    )

pub apart_split : (x y : Entries) (s : List ℕ) (q : ℕ) → Apart (x <+> y) s q → Apart x s q × Apart y s (q + nodes_in x)
unfolding Apart
apart_split none y s q r = let e : q ≡ q + 0 = omega arith in (tt, rw e at r)
apart_split (entry o u x) y s q r =
    let rest = apart_split x y s (q + nodes u) r.2 in
    let e : q + nodes u + nodes_in x ≡ q + (nodes u + nodes_in x) = omega arith in
    ((r.0, r.1, rest.0), rw e at rest.1)

-- Roots

top : (u : Usage) (s : List ℕ) (q o : ℕ) → Linked u s q o → RootLinked u s q o
unfolding Linked
top (unused z) s q o r = r
top (leaf z k t) s q o r = r
top (map z es) s q o r = r.0
top (array z n x) s q o r = r.0

pub count_is : (u : Usage) (s : List ℕ) (q o : ℕ) → Linked u s q o → count_in s q ≡ nodes u
count_is u s q o r = ap (λ (x : Cell). x.count) (top u s q o r)

-- In preorder

holds : {s : List ℕ} {q c l n : ℕ} {z : Size} {t o : ℕ} → with_next 0 (cell s q) ≡ full c 0 l n z t o → Holds s q c n z t o
holds e = record {
  command = ap (λ (x : Cell). x.command) e;
  nodes = ap (λ (x : Cell). x.count) e;
  size = ap (λ (x : Cell). x.size) e;
  argument = ap (λ (x : Cell). x.argument) e;
  offset = ap (λ (x : Cell). x.offset) e;
}

mutual
  unfolding Linked At

  pub linked_at : (u : Usage) (s : List ℕ) (q o : ℕ) → Linked u s q o → At u s q o
  linked_at (unused z) s q o r = (0, holds r)
  linked_at (leaf z k t) s q o r = holds r
  linked_at (map z es) s q o r = ((0, holds r.0), entries_at es s (suc q) r.1)
  linked_at (array z n x) s q o r = (holds r.0, (0, linked_at x s (suc q) 0 r.1))

  entries_at : (es : Entries) (s : List ℕ) (q : ℕ) → EntriesLinked es s q → EntriesAt es s q
  entries_at none s q r = tt
  entries_at (entry o u es) s q r = (linked_at u s q o r.0, entries_at es s (q + nodes u) r.2)

-- In linked records

rooted : (u : Usage) (s : List ℕ) (q o : ℕ) → 1 ≤ q → (q + nodes u) * 32 ≤ length s → RootLinked u s q o → Root s q by_number q (q + nodes u) (head_of u).command (size u)
unfolding by_number
rooted u s q o some inside e = record {
  some = some;
  inside = omega (arith, some_node u);
  low = omega arith;
  high = omega (arith, some_node u);
  command = ap (λ (x : Cell). x.command) e;
  size = ap (λ (x : Cell). x.size) e;
}

mutual
  unfolding Linked Stands by_number reached

  pub linked_stands : (u : Usage) (s : List ℕ) (q o : ℕ) → 1 ≤ q → (q + nodes u) * 32 ≤ length s → Linked u s q o → Stands u s q by_number q (q + nodes u)
  linked_stands (unused z) s q o some inside r = rooted (unused z) s q o some inside r
  linked_stands (leaf z k t) s q o some inside r = (rooted (leaf z k t) s q o some inside r, ap (λ (x : Cell). x.argument) r)
  linked_stands (map z es) s q o some inside r =
      let e : suc q + nodes_in es ≡ q + suc (nodes_in es) = omega arith in (
        rooted (map z es) s q o some inside r.0,
        record { index = 0; upto = omega arith; is = ap (λ (x : Cell). x.argument) r.0 },
        rw e at (row es s (suc q) (child_in s q) (omega arith) (omega arith) (ap (λ (x : Cell). x.child) r.0) r.1),
      )
  linked_stands (array z n x) s q o some inside r =
      let e : suc q + nodes x ≡ q + suc (nodes x) = omega arith in
      let c : child_in s q ≡ suc q = ap (λ (x : Cell). x.child) r.0 in (
        rooted (array z n x) s q o some inside r.0,
        ap (λ (x : Cell). x.argument) r.0,
        rw c (rw e at (linked_stands x s (suc q) 0 (omega arith) (omega arith) r.1)),
      )

  row : (es : Entries) (s : List ℕ) (q p : ℕ) → 1 ≤ q → (q + nodes_in es) * 32 ≤ length s → p ≡ first_of es q → EntriesLinked es s q → Row es s p 0 by_number q (q + nodes_in es)
  row none s q p some inside e r = (e, omega arith)
  row (entry o u es) s q p some inside e r =
      let m : q + nodes u + nodes_in es ≡ q + (nodes u + nodes_in es) = omega arith in
      rw e (
        q + nodes u,
        ap (λ (x : Cell). x.offset) (top u s q o r.0),
        linked_stands u s q o some (omega arith) r.0,
        rw m at (row es s (q + nodes u) (next_in s q) (omega arith) (omega arith) r.1 r.2),
      )
