-- The downward search over the rows of a table cuts the entries that they stand for behind the last that ends by d.
-- Assumes nothing.
use Prim.Native.Nat.{ℕ, suc, ◌+◌}
use mathlib.Core.Path.{◌≡◌, refl, sym, ap, ◌∙◌}
use mathlib.Core.Bool.{Bool, true, false}
use mathlib.Core.List.{List}
use native.Mathlib.Omega.{arith}
use lib.ListN.{get_or}
use Rattle.definitions.specs.Usage.{Size, fixed, Usage, Entries, none, entry, size, count, ◌<+>◌}
use Rattle.definitions.specs.Place.{ends, ◌≤ˢ◌}
use Rattle.records.specs.Records.{next_in, offset_in}
use Rattle.record_links.specs.Standing.{Stands, Row}
use Rattle.record_links.proofs.Rows.{row_none}
use Rattle.place_search.specs.Table.{nothing_is, ends_by, pick, last_of, Tells, Filled}
use Rattle.place_search.specs.declared.Entry.{Entry}

-- each ends past d
abbrev pub Later : ℕ → Entries → Type 0
Later d none = Unit {0}
Later d (entry o u es) = ((ends o (size u) ≤ˢ fixed d) ≡ false) × Later d es

row_ends : {x : Entry} {o q : ℕ} {z : Size} (d : ℕ) → Tells x o z q → ends_by x d ≡ (ends o z ≤ˢ fixed d)
row_ends d r = λ i. ends (r.offset i) (r.size i) ≤ˢ fixed d

-- es, which are linked from record q to record p, are the rows from i to n: none of them ends by d, and the search goes on below i; or it finds one of
-- them, at record l
pub data Searched (es : Entries) (r : ℕ → ℕ) (lo hi : ℕ) (s : List ℕ) (q p : ℕ) (t : List Entry) (i n d : ℕ) : Type 0 where
  passed : last_of t n d ≡ last_of t i d → Later d es → Searched es r lo hi s q p t i n d
  found : (init : Entries) (u : Usage) (above : Entries) (l m m' : ℕ) → es ≡ init <+> entry (offset_in s l) u above → Row init s q l r lo m → Stands u s l r m m' → (ends (offset_in s l) (size u) ≤ˢ fixed d) ≡ true
      → Row above s (next_in s l) p r m' hi → Later d above → last_of t n d ≡ l → Searched es r lo hi s q p t i n d

pub searched : (es : Entries) (r : ℕ → ℕ) (lo hi : ℕ) (s : List ℕ) (q p : ℕ) (t : List Entry) (i n d : ℕ) → n ≡ i + count es → Row es s q p r lo hi → Filled es t i s q → Searched es r lo hi s q p t i n d
unfolding Stands
searched none r lo hi s q p t i n d en h k = let ei : n ≡ i = omega arith in passed (ap (λ (j : ℕ). last_of t j d) ei) tt
searched (entry o u es) r lo hi s q p t i n d en h k = above (searched es r h.0 hi s (next_in s q) p t (suc i) n d (omega arith) h.3 k.1)
  where
    eo : entry o u es ≡ entry (offset_in s q) u es
    eo = ap (λ (x : ℕ). entry x u es) (sym h.1)

    here : (c : Bool) → ends_by (get_or t i nothing_is) d ≡ c → last_of t n d ≡ last_of t (suc i) d → Later d es → Searched (entry o u es) r lo hi s q p t i n d
    here true e et l =
        let et₁ : last_of t (suc i) d ≡ (get_or t i nothing_is).node = ap (λ (b : Bool). pick b (get_or t i nothing_is).node (last_of t i d)) e in
        let end : (ends (offset_in s q) (size u) ≤ˢ fixed d) ≡ true = ap (λ (x : ℕ). ends x (size u) ≤ˢ fixed d) h.1 ∙ sym (row_ends d k.0) ∙ e in
        found none u es q lo h.0 eo (row_none s q r lo) h.2 end h.3 l (et ∙ et₁ ∙ k.0.node)
    here false e et l =
        let et₁ : last_of t (suc i) d ≡ last_of t i d = ap (λ (b : Bool). pick b (get_or t i nothing_is).node (last_of t i d)) e in
        passed (et ∙ et₁) (sym (row_ends d k.0) ∙ e, l)

    above : Searched es r h.0 hi s (next_in s q) p t (suc i) n d → Searched (entry o u es) r lo hi s q p t i n d
    above (passed et l) = here (ends_by (get_or t i nothing_is) d) refl et l
    above (found init u' ab l m m' is hi' st end ha la et) = found (entry o u init) u' ab l m m' (ap (entry o u) is) (h.0, h.1, h.2, hi') st end ha la et
