-- Entries in records, taken one by one: those that are left, and the first of them.
-- Assumes nothing.
use Prim.Native.Nat.{ℕ, ◌+◌, ◌*◌, ◌<◌, ◌≤◌}
use mathlib.Core.Path.{◌≡◌}
use mathlib.Core.Bool.{Bool}
use mathlib.Core.List.{List}
use native.Mathlib.Omega.{arith}
use lib.ListN.{length}
use Rattle.definitions.specs.Usage.{Usage, Entries, none, entry, nodes, nodes_in}
use Rattle.definitions.proofs.Nodes.{some_node}
use Rattle.records.specs.Records.{count_in}
use Rattle.records.specs.Usages.{At, EntriesAt}
use Rattle.records.proofs.Usages.{root_of}
use Rattle.soundness.specs.Preorder.{UsageFrom, Counted}

-- those from record q to `to`, of which f answers b
pub record Left (s : List ℕ) (q to : ℕ) (f : Entries → Bool) (b : Bool) : Type 0 where
  pub entries : Entries
  pub stand : EntriesAt entries s q
  pub upto : q + nodes_in entries ≡ to
  pub same : b ≡ f entries

pub record First (s : List ℕ) (q to : ℕ) (f : Entries → Bool) (b : Bool) : Type 0 where
  pub offset : ℕ
  pub usage : Usage
  pub others : Entries
  pub here : At usage s q offset
  pub behind : EntriesAt others s (q + nodes usage)
  pub upto : q + nodes usage + nodes_in others ≡ to
  pub same : b ≡ f (entry offset usage others)

pub first : {s : List ℕ} {q to : ℕ} {f : Entries → Bool} {b : Bool} → Left s q to f b → q < to → First s q to f b
unfolding At
first {s} {q} {to} {f} {b} L lt = of L.entries L.stand L.upto L.same
  where
    of : (es : Entries) → EntriesAt es s q → q + nodes_in es ≡ to → b ≡ f es → First s q to f b
    of none r e h = absurd (omega arith)
    of (entry o u es) r e h = record { offset = o; usage = u; others = es; here = r.0; behind = r.1; upto = omega arith; same = h }

pub none_left : {s : List ℕ} {q to : ℕ} {f : Entries → Bool} {b : Bool} → Left s q to f b → to ≤ q → b ≡ f none
none_left {s} {q} {to} {f} {b} L le = of L.entries L.upto L.same
  where
    of : (es : Entries) → q + nodes_in es ≡ to → b ≡ f es → b ≡ f none
    of none e h = h
    of (entry o u es) e h = absurd (omega (arith, some_node u))

pub first_stands : {s : List ℕ} {q to : ℕ} {f : Entries → Bool} {b : Bool} → First s q to f b → to * 32 ≤ length s → to ≤ 65536 → UsageFrom s q
first_stands F h l = record { usage = F.usage; offset = F.offset; stands = F.here; inside = omega arith; few = omega arith }

-- the usage at record q, and where the next one begins

pub counted_nodes : (u : Usage) {s : List ℕ} {q end : ℕ} (o : ℕ) → At u s q o → Counted s q end → q + nodes u ≡ end
counted_nodes u {s} {q} o r C = omega (arith, (root_of u s q o r).1.nodes)

module _ {s : List ℕ} {q : ℕ} (S : UsageFrom s q) where
  pub room : q * 32 + 32 ≤ length s
  room = omega (arith, some_node S.usage)

  pub counted : (n : ℕ) → n ≡ count_in s q → Counted s q (q + n)
  counted n e =
      let nodes-is : count_in s q ≡ nodes S.usage = (root_of S.usage s q S.offset S.stands).1.nodes in
      record { upto = omega arith; some = omega (arith, some_node S.usage); inside = omega arith; few = omega arith }
