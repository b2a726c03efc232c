-- Linked entries, taken apart and joined: where one ends the next one begins, in ranks and in links.
-- Assumes nothing.
use Prim.Native.Nat.{ℕ, ◌+◌, ◌*◌, ◌≤◌}
use mathlib.Core.Path.{◌≡◌, refl, sym, ap, ◌∙◌, subst}
use mathlib.Core.List.{List}
use lib.ListN.{length}
use native.Mathlib.Omega.{arith}
use Rattle.definitions.specs.Usage.{Usage, Entries, none, entry, ◌<+>◌}
use Rattle.records.specs.Records.{next_in, child_in, offset_in}
use Rattle.record_links.specs.Standing.{Stands, Row}
use Rattle.record_links.specs.Rows.{onto, Down, link, Up}
use Rattle.record_links.proofs.Stands.{stands_root, row_le, row_low, up_wide, link_suc, link_zero}

-- Taken apart

-- the first of some linked entries, and the rest
pub record Head (es : Entries) (s : List ℕ) (q e : ℕ) (r : ℕ → ℕ) (lo hi : ℕ) : Type 0 where
  pub u : Usage
  pub rest : Entries
  pub m : ℕ
  pub is : es ≡ entry (offset_in s q) u rest
  pub stands : Stands u s q r lo m
  pub row : Row rest s (next_in s q) e r m hi

pub head : (es : Entries) (s : List ℕ) (q e : ℕ) (r : ℕ → ℕ) (lo hi : ℕ) → (q ≡ e → ⊥) → Row es s q e r lo hi → Head es s q e r lo hi
unfolding Stands
head none s q e r lo hi ne h = absurd (ne h.0)
head (entry o u es) s q e r lo hi ne h = record { u = u; rest = es; m = h.0; is = ap (λ (x : ℕ). entry x u es) (sym h.1); stands = h.2; row = h.3 }

-- no entry is left, where the end lies past them
pub end : (es : Entries) (s : List ℕ) (q e : ℕ) (r : ℕ → ℕ) (lo hi : ℕ) → q ≡ e → (1 ≤ e → hi ≤ r e) → Row es s q e r lo hi → es ≡ none
unfolding Stands
end none s q e r lo hi eq past h = refl
end (entry o u es) s q e r lo hi eq past h =
    let R = stands_root u s q r lo h.0 h.2 in
    let l = row_le es s (next_in s q) e r h.0 hi h.3 in
    absurd (omega (arith, R.high, ap r eq, past (omega (arith, R.some))))

pub end_0 : (es : Entries) (s : List ℕ) (q : ℕ) (r : ℕ → ℕ) (lo hi : ℕ) → q ≡ 0 → Row es s q 0 r lo hi → es ≡ none
end_0 es s q r lo hi e h = end es s q 0 r lo hi e (omega arith) h

-- where entries begin, they have a rank
pub first_past : (es : Entries) (s : List ℕ) (q : ℕ) (r : ℕ → ℕ) (lo hi : ℕ) → Row es s q 0 r lo hi → 1 ≤ q → lo ≤ r q
first_past es s q r lo hi h some = let w = head es s q 0 r lo hi (omega arith) h in (stands_root w.u s q r lo w.m w.stands).low

-- the highest of some entries linked downwards, and the rest
pub record Top (es : Entries) (s : List ℕ) (q : ℕ) (r : ℕ → ℕ) (lo hi : ℕ) : Type 0 where
  pub u : Usage
  pub rest : Entries
  pub m : ℕ
  pub is : es ≡ entry (offset_in s q) u rest
  pub stands : Stands u s q r m hi
  pub down : Down rest s (next_in s q) r lo m

pub top : (es : Entries) (s : List ℕ) (q : ℕ) (r : ℕ → ℕ) (lo hi : ℕ) → (q ≡ 0 → ⊥) → Down es s q r lo hi → Top es s q r lo hi
unfolding Down
top none s q r lo hi ne h = absurd (ne h.0)
top (entry o u es) s q r lo hi ne h = record { u = u; rest = es; m = h.0; is = ap (λ (x : ℕ). entry x u es) (sym h.1); stands = h.2; down = h.3 }

pub bottom : (es : Entries) (s : List ℕ) (q : ℕ) (r : ℕ → ℕ) (lo hi : ℕ) → q ≡ 0 → Down es s q r lo hi → es ≡ none
unfolding Down
bottom none s q r lo hi e h = refl
bottom (entry o u es) s q r lo hi e h = absurd (omega (arith, (stands_root u s q r h.0 hi h.2).some))

-- Where some are linked from a record on, it is there; where none are, it is 0, which any bytes have room for that hold a record

pub row_in : (es : Entries) (s : List ℕ) (q : ℕ) (r : ℕ → ℕ) (lo hi n : ℕ) → 32 ≤ n → length s ≤ n → Row es s q 0 r lo hi → q * 32 + 32 ≤ n
unfolding Stands
row_in none s q r lo hi n some le h = omega (arith, h.0)
row_in (entry o u es) s q r lo hi n some le h = omega (arith, (stands_root u s q r lo h.0 h.2).inside)

pub down_in : (es : Entries) (s : List ℕ) (q : ℕ) (r : ℕ → ℕ) (lo hi n : ℕ) → 32 ≤ n → length s ≤ n → Down es s q r lo hi → q * 32 + 32 ≤ n
unfolding Down
down_in none s q r lo hi n some le h = omega (arith, h.0)
down_in (entry o u es) s q r lo hi n some le h = omega (arith, (stands_root u s q r h.0 hi h.2).inside)

pub up_in : (es : Entries) (s : List ℕ) (a l : ℕ) (r : ℕ → ℕ) (lo hi n : ℕ) → 32 ≤ n → length s ≤ n → Up es s a l r lo hi → l * 32 + 32 ≤ n
unfolding Up
up_in none s a l r lo hi n some le h = omega (arith, h.0)
up_in (entry o u es) s a l r lo hi n some le h = omega (arith, (stands_root u s l r h.0 hi h.4).inside)

-- Joined

pub row_none : (s : List ℕ) (q : ℕ) (r : ℕ → ℕ) (lo : ℕ) → Row none s q q r lo lo
unfolding Stands
row_none s q r lo = (refl, omega arith)

pub row_one : (s : List ℕ) (o : ℕ) (u : Usage) (es : Entries) (q e : ℕ) (r : ℕ → ℕ) (lo m hi : ℕ) → offset_in s q ≡ o → Stands u s q r lo m → Row es s (next_in s q) e r m hi → Row (entry o u es) s q e r lo hi
unfolding Stands
row_one s o u es q e r lo m hi eo h t = (m, eo, h, t)

pub down_none : (s : List ℕ) (r : ℕ → ℕ) (lo : ℕ) → Down none s 0 r lo lo
unfolding Down
down_none s r lo = (refl, omega arith)

pub down_one : (s : List ℕ) (o : ℕ) (u : Usage) (es : Entries) (q : ℕ) (r : ℕ → ℕ) (lo m hi : ℕ) → offset_in s q ≡ o → Stands u s q r m hi → Down es s (next_in s q) r lo m → Down (entry o u es) s q r lo hi
unfolding Down
down_one s o u es q r lo m hi eo h t = (m, eo, h, t)

pub up_none : (s : List ℕ) (a : ℕ) (r : ℕ → ℕ) (lo : ℕ) → Up none s a 0 r lo lo
unfolding Up
up_none s a r lo = (refl, omega arith)

pub up_one : (s : List ℕ) (a o : ℕ) (u : Usage) (es : Entries) (l p : ℕ) (r : ℕ → ℕ) (lo m hi : ℕ) → offset_in s l ≡ o → link s a p ≡ l → Stands u s l r m hi → Up es s a p r lo m → Up (entry o u es) s a l r lo hi
unfolding Up
up_one s a o u es l p r lo m hi eo el h t = (m, p, eo, el, h, t)

pub row_app : (x y : Entries) (s : List ℕ) (q e f : ℕ) (r : ℕ → ℕ) (lo m hi : ℕ) → Row x s q e r lo m → Row y s e f r m hi → Row (x <+> y) s q f r lo hi
unfolding Stands
row_app none y s q e f r lo m hi h t = row_low y s q f r m lo hi h.1 (subst (λ (n : ℕ). Row y s n f r m hi) (sym h.0) t)
row_app (entry o u x) y s q e f r lo m hi h t = (h.0, h.1, h.2, row_app x y s (next_in s q) e f r h.0 m hi h.3 t)

-- a run behind the entries up to l
pub up_run : (hs lr : Entries) (s : List ℕ) (a l first q : ℕ) (r : ℕ → ℕ) (lo m₁ m₂ : ℕ) → Up lr s a l r lo m₁ → link s a l ≡ first → Row hs s first q r m₁ m₂ → (p : ℕ) × Up (onto hs lr) s a p r lo m₂ × (link s a p ≡ q)
unfolding onto Stands
up_run none lr s a l first q r lo m₁ m₂ U e h = (l, up_wide lr s a l r lo m₁ m₂ h.1 U, e ∙ h.0)
up_run (entry o u hs) lr s a l first q r lo m₁ m₂ U e h =
    up_run hs (entry o u lr) s a first (next_in s first) q r lo h.0 m₂ (up_one s a o u lr first l r lo m₁ h.0 h.1 e h.2 U)
    (link_suc s a first (stands_root u s first r m₁ h.0 h.2).some) h.3

-- the entries from the highest down and those above, as one row
pub unzip : (x y : Entries) (s : List ℕ) (a l : ℕ) (r : ℕ → ℕ) (lo m hi : ℕ) → Up x s a l r lo m → Row y s (link s a l) 0 r m hi → Row (onto x y) s (child_in s a) 0 r lo hi
unfolding Up onto
unzip none y s a l r lo m hi h t = row_low y s (child_in s a) 0 r m lo hi h.1 (subst (λ (n : ℕ). Row y s n 0 r m hi) (link_zero s a l h.0) t)
unzip (entry o u x) y s a l r lo m hi h t =
    let R = stands_root u s l r h.0 m h.4 in
    let here : Row (entry o u y) s l 0 r h.0 hi = row_one s o u y l 0 r h.0 m hi h.2 h.4 (subst (λ (n : ℕ). Row y s n 0 r m hi) (link_suc s a l R.some) t) in
    unzip x (entry o u y) s a h.1 r lo h.0 hi h.5 (subst (λ (n : ℕ). Row (entry o u y) s n 0 r h.0 hi) (sym h.3) here)
