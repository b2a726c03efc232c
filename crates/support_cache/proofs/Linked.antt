-- The element of an array and the entries of a map are usages themselves, with fewer nodes; entries come one after the other along
-- their links, and there are fewer and fewer of them.
-- Assumes nothing.
use Rattle.std.proofs.Common.{◌≡◌, ℕ, suc, ◌+◌, ◌<◌, List, sym, ap, ◌∙◌, subst, arith}
use Rattle.definitions.specs.Limits.{node_limit}
use Rattle.definitions.specs.Usage.{Entries, nodes, nodes_in}
use Rattle.definitions.proofs.Nodes.{few_entries}
use Rattle.records.specs.Records.{command_in, next_in, child_in}
use Rattle.record_links.specs.Standing.{Row}
use Rattle.record_links.specs.Rows.{chain, nodes_at}
use Rattle.record_links.proofs.Stands.{stands_root}
use Rattle.record_links.proofs.Rows.{Head, head}
use Rattle.record_links.proofs.Chains.{row_falls}
use Rattle.record_links.proofs.Weights.{nodes_at_lem}
use Rattle.record_links.proofs.Shapes.{map_of, array_of}
use Rattle.support_cache.specs.Nodes.{UsageAt, Unchanged, Along, Child}
use Rattle.support_cache.proofs.Staying.{usage_after}

pub nodes_are : {s : List ℕ} {q : ℕ} (w : UsageAt s q) → nodes_at s q ≡ nodes w.usage
nodes_are {s} {q} w = nodes_at_lem w.usage s q w.rank w.lo w.hi w.stands (omega (arith, w.few))

pub nodes_stay : {s s' : List ℕ} {q : ℕ} → Unchanged s s' → UsageAt s q → nodes_at s' q ≡ nodes_at s q
nodes_stay U w = nodes_are (usage_after U w) ∙ sym (nodes_are w)

-- The element

record Element (s : List ℕ) (q : ℕ) : Type 0 where
  usage : UsageAt s (child_in s q)
  smaller : nodes_at s (child_in s q) < nodes_at s q

element_of_lem : {s : List ℕ} {q : ℕ} → child_in s q < 65536 → command_in s q ≡ 4 → UsageAt s q → Element s q
element_of_lem {s} {q} l k w =
    let A = array_of w.usage s q w.rank w.lo w.hi k w.stands in
    let many : nodes w.usage ≡ suc (nodes A.0) = ap nodes A.1 in
    let lo = suc (w.rank q) in
    record {
      usage = record {
        usage = A.0;
        rank = w.rank;
        lo = lo;
        hi = w.hi;
        stands = A.2;
        few = omega (arith, many, w.few);
        within = (stands_root A.0 s (child_in s q) w.rank lo w.hi A.2).inside;
        numbered = l;
      };
      smaller = omega (arith, many, w.few, nodes_are w, nodes_at_lem A.0 s (child_in s q) w.rank lo w.hi A.2 (omega (arith, many, w.few)));
    }

module _ {s : List ℕ} {q c : ℕ} (k : command_in s q ≡ 4) (w : UsageAt s q) (z : (c ≡ child_in s q) × (c < 65536)) where
  pub element_usage : UsageAt s c
  element_usage = subst (UsageAt s) (sym z.0) (element_of_lem (omega (arith, z)) k w).usage

  pub element_smaller : nodes_at s c < nodes_at s q
  element_smaller = omega (arith, ap (nodes_at s) z.0, (element_of_lem (omega (arith, z)) k w).smaller)

-- The entries of the map at record q that are linked from record e on

pub record Linked (s : List ℕ) (q e : ℕ) : Type 0 where
  pub left : Entries
  pub rank : ℕ → ℕ
  pub lo : ℕ
  pub hi : ℕ
  pub row : Row left s e 0 rank lo hi
  pub fewer : nodes_in left < nodes_at s q
  pub few : nodes_in left < node_limit
  pub numbered : e < 65536
  pub along : (i : ℕ) → Along s e i → Along s (child_in s q) i

pub first_linked : {s : List ℕ} {q e : ℕ} → command_in s q ≡ 3 → UsageAt s q → (e ≡ child_in s q) × (e < 65536) → Linked s q e
first_linked {s} {q} {e} k w x =
    let M = map_of w.usage s q w.rank w.lo w.hi k w.stands in
    let many : nodes w.usage ≡ suc (nodes_in M.0) = ap nodes M.1 in
    record {
      left = M.0;
      rank = w.rank;
      lo = suc (w.rank q);
      hi = w.hi;
      row = subst (λ (y : ℕ). Row M.0 s y 0 w.rank (suc (w.rank q)) w.hi) (sym x.0) M.3;
      fewer = omega (arith, many, nodes_are w);
      few = omega (arith, many, w.few);
      numbered = x.1;
      along = λ i h. subst (λ (y : ℕ). Along s y i) x.0 h;
    }

module _ {s : List ℕ} {q e : ℕ} (L : Linked s q e) (ne : e ≡ 0 → ⊥) where
  H : Head L.left s e 0 L.rank L.lo L.hi
  H = head L.left s e 0 L.rank L.lo L.hi ne L.row

  parts : nodes_in L.left ≡ nodes H.u + nodes_in H.rest
  parts = ap nodes_in H.is

  pub entry_usage : UsageAt s e
  entry_usage = record {
    usage = H.u;
    rank = L.rank;
    lo = L.lo;
    hi = H.m;
    stands = H.stands;
    few = omega (arith, parts, L.few);
    within = (stands_root H.u s e L.rank L.lo H.m H.stands).inside;
    numbered = L.numbered;
  }

  pub entry_smaller : nodes_at s e < nodes_at s q
  unfolding H entry_usage
  entry_smaller =
      let n : nodes_at s e ≡ nodes H.u = nodes_are entry_usage in
      omega (arith, parts, L.fewer)

  pub entry_child : command_in s q ≡ 3 → Child s q e
  entry_child k = Child.entry k (L.along e (Along.first e ne))

  module _ {n : ℕ} (x : n ≡ next_in s e) where
    pub next_linked : n < 65536 → Linked s q n
    next_linked l = record {
      left = H.rest;
      rank = L.rank;
      lo = H.m;
      hi = L.hi;
      row = subst (λ (y : ℕ). Row H.rest s y 0 L.rank H.m L.hi) (sym x) H.row;
      fewer = omega (arith, parts, L.fewer);
      few = omega (arith, parts, L.few);
      numbered = l;
      along = λ i h. L.along i (Along.later e i ne (subst (λ (y : ℕ). Along s y i) x h));
    }

    pub chain_falls : chain 65536 s n < chain 65536 s e
    chain_falls =
        omega (arith, row_falls L.left s e L.rank L.lo L.hi (omega (arith, few_entries L.left, L.few)) ne L.row, ap (chain 65536 s) x)
