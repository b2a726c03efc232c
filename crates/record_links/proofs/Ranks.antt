-- Two intervals of ranks change places; no record does.
-- Assumes nothing.
use Prim.Native.Nat.{ℕ, ◌+◌, ◌-◌, ◌≤◌, ◌<◌}
use mathlib.Core.Path.{◌≡◌, refl}
use mathlib.Core.List.{List}
use native.Mathlib.Omega.{arith}
use native.Mathlib.Decide.{dec_lt}
use borrow.Author.Tests.{lt-ltb, le-ltb}
use Rattle.definitions.specs.If.{when◌then◌else◌}
use Rattle.definitions.specs.Usage.{Usage, Entries}
use Rattle.record_links.specs.Standing.{Stands, Row}
use Rattle.record_links.specs.Frames.{Kept}
use Rattle.record_links.specs.Ranks.{spin, rotated}
use Rattle.record_links.proofs.Stands.{stands_move, row_move}

spin_out : (c m e x : ℕ) → c ≤ m → m ≤ e → (c ≤ x → x < e → ⊥) → spin c m e x ≡ x
unfolding spin when◌then◌else◌
spin_out c m e x a b n = elim (dec_lt x c) [
  | yes v ↦ simp (lt-ltb x c v)
  | no v ↦ elim (dec_lt x e) [
    | yes t ↦ absurd (n (omega arith) t)
    | no t ↦ let l : e ≤ x = omega arith in let l₁ : m ≤ x = omega arith in let l₂ : c ≤ x = omega arith in simp (le-ltb x c l₂, le-ltb x m l₁, le-ltb x e l)
  ]
]

spin_left : (c m e x : ℕ) → c ≤ x → x < m → spin c m e x ≡ x + (e - m)
unfolding spin when◌then◌else◌
spin_left c m e x a b = simp (le-ltb x c a, lt-ltb x m b)

spin_right : (c m e x : ℕ) → c ≤ m → m ≤ x → x < e → spin c m e x ≡ x - (m - c)
unfolding spin when◌then◌else◌
spin_right c m e x a b d = let l : c ≤ x = omega arith in simp (le-ltb x c l, le-ltb x m b, lt-ltb x e d)

pub rot_kept : (s : List ℕ) (r : ℕ → ℕ) (c m e : ℕ) → c ≤ m → m ≤ e → Kept s r s (rotated r c m e) c e
rot_kept s r c m e a b = record {
  len = refl;
  outs = λ i n. (refl, spin_out c m e (r i) a b n);
  ins = λ i x y. elim (dec_lt (r i) m) [
    | yes v ↦ omega (arith, spin_left c m e (r i) x v)
    | no v ↦ omega (arith, spin_right c m e (r i) a (omega arith) y)
  ];
}

module _ (s : List ℕ) (r : ℕ → ℕ) (c m e : ℕ) (a : c ≤ m) (b : m ≤ e) where
  pub rot_left : (u : Usage) (q : ℕ) → Stands u s q r c m → Stands u s q (rotated r c m e) (c + (e - m)) e
  rot_left u q h = stands_move u s s q r (rotated r c m e) c m (c + (e - m)) e (e - m) 0 refl (omega arith) (omega arith) (λ i x y. (refl, omega (arith, spin_left c m e (r i) x y))) h

  pub rot_right : (u : Usage) (q : ℕ) → Stands u s q r m e → Stands u s q (rotated r c m e) c (c + (e - m))
  rot_right u q h = stands_move u s s q r (rotated r c m e) m e c (c + (e - m)) 0 (m - c) refl (omega arith) (omega arith) (λ i x y. (refl, omega (arith, spin_right c m e (r i) a x y))) h

  pub row_left : (es : Entries) (q f : ℕ) → Row es s q f r c m → Row es s q f (rotated r c m e) (c + (e - m)) e
  row_left es q f h = row_move es s s q f r (rotated r c m e) c m (c + (e - m)) e (e - m) 0 refl (omega arith) (omega arith) (λ i x y. (refl, omega (arith, spin_left c m e (r i) x y))) h
