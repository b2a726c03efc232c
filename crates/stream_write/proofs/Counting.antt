-- Counting along the links: the entries that are passed and those that are left are all of them, so where the links end all are
-- counted.
-- Assumes nothing.
use Prim.Native.Nat.{ℕ, ◌+◌, ◌*◌, ◌<◌, ◌≤◌}
use mathlib.Core.Path.{◌≡◌, sym, ap, subst}
use mathlib.Core.List.{List}
use native.Mathlib.Omega.{arith}
use lib.ListN.{length}
use Rattle.definitions.specs.Usage.{Entries, count}
use Rattle.records.specs.Records.{next_in}
use Rattle.record_links.specs.Standing.{Row}
use Rattle.record_links.specs.Rows.{chain}
use Rattle.record_links.proofs.Stands.{stands_root}
use Rattle.record_links.proofs.Rows.{Head, head, end_0}
use Rattle.record_links.proofs.Chains.{row_falls}
use Rattle.stream_write.specs.Writing.{Listed, CountIs}

-- from one entry to the next fewer are linked
pub row_less : (es : Entries) (s : List ℕ) (p p' : ℕ) (rank : ℕ → ℕ) (lo hi : ℕ) → (p ≡ 0 → ⊥) → p' ≡ next_in s p → count es ≤ 65536 → Row es s p 0 rank lo hi → chain 65536 s p' < chain 65536 s p
row_less es s p p' rank lo hi ne e few row =
    omega (arith, row_falls es s p rank lo hi few ne row, ap (chain 65536 s) e)

-- k entries are passed, and the others are linked from record p on
pub record Passed (es : Entries) (s : List ℕ) (p k : ℕ) (rank : ℕ → ℕ) (hi : ℕ) : Type 0 where
  pub left : Entries
  pub m : ℕ
  pub row : Row left s p 0 rank m hi
  pub many : k + count left ≡ count es

-- of whichever entries are linked from record q on
pub record Counting (s : List ℕ) (q p k : ℕ) : Type 0 where
  pub from : Listed s q
  pub of : (es : Entries) (rank : ℕ → ℕ) (lo hi : ℕ) → Row es s q 0 rank lo hi → Passed es s p k rank hi

module _ (s : List ℕ) (q p k : ℕ) (C : Counting s q p k) (ne : p ≡ 0 → ⊥) where
  L : Listed s q
  L = C.from

  here : Passed L.entries s p k L.rank L.hi
  here = C.of L.entries L.rank L.lo L.hi L.row

  first : Head here.left s p 0 L.rank here.m L.hi
  first = head here.left s p 0 L.rank here.m L.hi ne here.row

  pub entry_inside : p * 32 + 32 ≤ length s
  entry_inside = (stands_root first.u s p L.rank here.m first.m first.stands).inside

  pub count_more : (p' : ℕ) → p' ≡ next_in s p → Counting s q p' (k + 1)
  count_more p' e = record {
    from = L;
    of = λ es rank lo hi h.
        let P = C.of es rank lo hi h in
        let H = head P.left s p 0 rank P.m hi ne P.row in
        record { left = H.rest; m = H.m; row = subst (λ (x : ℕ). Row H.rest s x 0 rank H.m hi) (sym e) H.row; many = omega (arith, P.many, ap count H.is) };
  }

  pub count_less : (p' : ℕ) → p' ≡ next_in s p → chain 65536 s p' < chain 65536 s p
  count_less p' e = row_less here.left s p p' L.rank here.m L.hi ne e (omega (arith, here.many, L.small)) here.row

pub count_all : (s : List ℕ) (q p k : ℕ) → Counting s q p k → p ≡ 0 → CountIs s q k
count_all s q p k C e = record {
  of = all;
  small = let L = C.from in omega (arith, all L.entries L.rank L.lo L.hi L.row, L.small);
}
  where
    all : (es : Entries) (rank : ℕ → ℕ) (lo hi : ℕ) → Row es s q 0 rank lo hi → k ≡ count es
    all es rank lo hi h = let P = C.of es rank lo hi h in omega (arith, P.many, ap count (end_0 P.left s p rank P.m hi e P.row))
