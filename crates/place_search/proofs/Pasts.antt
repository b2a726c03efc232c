-- Whether an entry ends past 32 bits, found along the links from the first on: one that does not is left out.
-- Assumes nothing.
use Prim.Native.Nat.{ℕ, ◌+◌, ◌*◌, ◌<◌, ◌≤◌}
use mathlib.Core.Path.{◌≡◌, refl, sym, ap, ◌∙◌, subst}
use mathlib.Core.Bool.{Bool, true, false, ◌||◌}
use mathlib.Core.List.{List}
use native.Mathlib.Omega.{arith}
use lib.ListN.{length}
use Rattle.definitions.specs.Usage.{Size, Entries, size}
use Rattle.definitions.specs.Place.{ends, past32}
use Rattle.records.specs.Records.{next_in, size_in, offset_in}
use Rattle.record_links.specs.Standing.{Row}
use Rattle.record_links.specs.Rows.{chain}
use Rattle.record_links.proofs.Stands.{stands_root}
use Rattle.record_links.proofs.Rows.{Head, head, end, first_past}
use Rattle.place_search.specs.Numbers.{Denotes, Past}
use Rattle.place_search.specs.Parts.{any_past}
use Rattle.place_search.specs.Cutting.{Between, AnyPast}
use Rattle.place_search.proofs.Linking.{linked_inside, linked_next, linked_less}

-- what is left of them from record p on has one past 32 bits if they have
record Left (mid : Entries) (r : ℕ → ℕ) (m : ℕ) (s : List ℕ) (p e : ℕ) : Type 0 where
  rest : Entries
  n : ℕ
  held : Row rest s p e r n m
  same : any_past mid ≡ any_past rest

-- the loop's invariant
pub record Passing (s : List ℕ) (q e p : ℕ) : Type 0 where
  pub there : Between s p e
  left : (mid high : Entries) (r : ℕ → ℕ) (lo m hi : ℕ) → Row mid s q e r lo m → Row high s e 0 r m hi → Left mid r m s p e

pub pass_start : {s : List ℕ} {q e : ℕ} → Between s q e → Passing s q e q
pass_start B = record { there = B; left = λ mid high r lo m hi h k. record { rest = mid; n = lo; held = h; same = refl } }

module _ {s : List ℕ} {q e p : ℕ} (P : Passing s q e p) (ne : p ≡ e → ⊥) where
  first : Head P.there.mid s p e P.there.r P.there.lo P.there.m
  first = let B = P.there in head B.mid s p e B.r B.lo B.m ne B.mid_held

  some : p ≡ 0 → ⊥
  some z = let B = P.there in let v = first in let R = stands_root v.u s p B.r B.lo v.m v.stands in absurd (omega (arith, R.some))

  pub pass_inside : p * 32 + 32 ≤ length s
  pass_inside = (linked_inside P.there.linked some).0

  pub pass_less : {p' : ℕ} → p' ≡ next_in s p → chain 65536 s p' < chain 65536 s p
  pass_less eq = linked_less P.there.linked some eq

  module _ {o f : ℕ} {c : Bool} (eo : o ≡ offset_in s p) (M : Denotes f (ends o (size_in s p))) (N : Past f c) where
    one_past : (es : Entries) (r : ℕ → ℕ) (lo hi : ℕ) (v : Head es s p e r lo hi) → any_past es ≡ (c || any_past v.rest)
    one_past es r lo hi v =
        let R = stands_root v.u s p r lo v.m v.stands in
        let is : c ≡ past32 (ends (offset_in s p) (size v.u)) = N.of (ends o (size_in s p)) M ∙ ap (λ (y : ℕ). past32 (ends y (size_in s p))) eo ∙ ap (λ (y : Size). past32 (ends (offset_in s p) y)) R.size in
        ap any_past v.is ∙ ap (λ (b : Bool). b || any_past v.rest) (sym is)

    pub pass_one : c ≡ true → AnyPast s q e true
    pass_one h = record {
      of = λ mid high r lo m hi k l.
          let L = P.left mid high r lo m hi k l in
          let v = head L.rest s p e r L.n m ne L.held in
          sym (L.same ∙ one_past L.rest r L.n m v ∙ ap (λ (b : Bool). b || any_past v.rest) h);
    }

    pub pass_more : {p' : ℕ} → c ≡ false → p' ≡ next_in s p → Passing s q e p'
    pass_more h eq =
        let B = P.there in
        let w = first in
        record {
          there = record {
            linked = linked_next B.linked some eq (omega arith);
            mid = w.rest;
            high = B.high;
            r = B.r;
            lo = w.m;
            m = B.m;
            hi = B.hi;
            mid_held = subst (λ (y : ℕ). Row w.rest s y e B.r w.m B.m) (sym eq) w.row;
            high_held = B.high_held;
          };
          left = λ mid high r lo m hi k l.
              let L = P.left mid high r lo m hi k l in
              let v = head L.rest s p e r L.n m ne L.held in
              record {
                rest = v.rest;
                n = v.m;
                held = subst (λ (y : ℕ). Row v.rest s y e r v.m m) (sym eq) v.row;
                same = L.same ∙ one_past L.rest r L.n m v ∙ ap (λ (b : Bool). b || any_past v.rest) h;
              };
        }

pub pass_end : {s : List ℕ} {q e p : ℕ} → Passing s q e p → p ≡ e → AnyPast s q e false
pass_end {s} {e = e} {p = p} P eq = record {
  of = λ mid high r lo m hi k l.
      let L = P.left mid high r lo m hi k l in
      sym (L.same ∙ ap any_past (end L.rest s p e r L.n m eq (first_past high s e r m hi l) L.held));
}
