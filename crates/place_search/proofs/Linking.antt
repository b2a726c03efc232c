-- What is linked from a record on: the record is there, and behind it one fewer are linked.
-- Assumes nothing.
use Prim.Native.Nat.{ℕ, ◌+◌, ◌*◌, ◌<◌, ◌≤◌}
use mathlib.Core.Path.{◌≡◌, sym, ap, subst}
use mathlib.Core.List.{List}
use native.Mathlib.Omega.{arith}
use lib.ListN.{length}
use Rattle.definitions.specs.Usage.{count}
use Rattle.definitions.proofs.Nodes.{few_entries}
use Rattle.records.specs.Records.{next_in, child_in}
use Rattle.record_links.specs.Standing.{Row}
use Rattle.record_links.specs.Rows.{chain}
use Rattle.record_links.proofs.Stands.{stands_root}
use Rattle.record_links.proofs.Rows.{Head, head}
use Rattle.record_links.proofs.Chains.{row_falls}
use Rattle.place_search.specs.Parts.{Listed}
use Rattle.place_search.specs.Seeking.{Linked, Within}

pub listed_linked : {s : List ℕ} {a c : ℕ} → Listed s a → c ≡ child_in s a → Linked s c 0
listed_linked {s} L e = record {
  es = L.es;
  r = L.r;
  lo = L.lo;
  hi = L.hi;
  row = subst (λ (q : ℕ). Row L.es s q 0 L.r L.lo L.hi) (sym e) L.row;
  few = omega (arith, few_entries L.es, L.few);
  linkable = L.linkable;
}

module _ {s : List ℕ} {p k : ℕ} (L : Linked s p k) where
  first : (p ≡ 0 → ⊥) → Head L.es s p 0 L.r L.lo L.hi
  first ne = head L.es s p 0 L.r L.lo L.hi ne L.row

  pub linked_inside : (p ≡ 0 → ⊥) → (p * 32 + 32 ≤ length s) × (p < 65536)
  linked_inside ne =
      let v = first ne in
      let R = stands_root v.u s p L.r L.lo v.m v.stands in
      (R.inside, omega (arith, R.inside, L.linkable))

  pub linked_within : Within s p
  linked_within = record { inside = λ ne. (linked_inside ne).0 }

  module _ {p' : ℕ} (ne : p ≡ 0 → ⊥) (e : p' ≡ next_in s p) where
    pub linked_next : {k' : ℕ} → k' ≤ k + 1 → Linked s p' k'
    linked_next le =
        let v = first ne in
        record {
          es = v.rest;
          r = L.r;
          lo = v.m;
          hi = L.hi;
          row = subst (λ (q : ℕ). Row v.rest s q 0 L.r v.m L.hi) (sym e) v.row;
          few = omega (arith, L.few, ap count v.is);
          linkable = L.linkable;
        }

    pub linked_less : chain 65536 s p' < chain 65536 s p
    linked_less = omega (arith, row_falls L.es s p L.r L.lo L.hi (omega (arith, L.few)) ne L.row, ap (chain 65536 s) e)
