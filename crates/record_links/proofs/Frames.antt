-- What a change leaves alone: changes one after another leave alone what each does, and what has its ranks apart is still.
-- Assumes nothing.
use Prim.Native.Nat.{ℕ, ◌≤◌, ◌<◌}
use mathlib.Core.Path.{◌≡◌, refl, ap, ◌∙◌}
use mathlib.Core.List.{List}
use lib.ListN.{length}
use native.Mathlib.Omega.{arith}
use native.Mathlib.Decide.{dec_lt}
use Rattle.records.specs.Records.{Cell, cell, Set}
use Rattle.record_links.specs.Frames.{Kept, Still}

pub kept_none : (s : List ℕ) (r : ℕ → ℕ) (lo hi : ℕ) → Kept s r s r lo hi
kept_none s r lo hi = record { len = refl; outs = λ i n. (refl, refl); ins = λ i a b. (a, b) }

pub kept_marks : (s s' : List ℕ) (r : ℕ → ℕ) (lo hi : ℕ) → length s' ≡ length s → ((i : ℕ) → cell s' i ≡ cell s i) → Kept s r s' r lo hi
kept_marks s s' r lo hi len A = record { len = len; outs = λ i n. (A i, refl); ins = λ i a b. (a, b) }

pub kept_set : (s s' : List ℕ) (r : ℕ → ℕ) (lo hi q : ℕ) (c : Cell) → length s' ≡ length s → lo ≤ r q → r q < hi → Set s s' q c → Kept s r s' r lo hi
kept_set s s' r lo hi q c len a b S = record { len = len; outs = λ i n. (S.others i (λ e. n (omega (arith, ap r e)) (omega (arith, ap r e))), refl); ins = λ i a b. (a, b) }

pub kept_trans : (s s₁ s₂ : List ℕ) (r r₁ r₂ : ℕ → ℕ) (lo hi : ℕ) → Kept s r s₁ r₁ lo hi → Kept s₁ r₁ s₂ r₂ lo hi → Kept s r s₂ r₂ lo hi
kept_trans s s₁ s₂ r r₁ r₂ lo hi K L = record {
  len = L.len ∙ K.len;
  outs = λ i n.
      let w = K.outs i n in
      let v = L.outs i (λ a b. n (omega (arith, w.1)) (omega (arith, w.1))) in
      (v.0 ∙ w.0, v.1 ∙ w.1);
  ins = λ i a b. let w = K.ins i a b in L.ins i w.0 w.1;
}

pub kept_widen : (s s' : List ℕ) (r r' : ℕ → ℕ) (c e lo hi : ℕ) → lo ≤ c → e ≤ hi → Kept s r s' r' c e → Kept s r s' r' lo hi
kept_widen s s' r r' c e lo hi a b K = record {
  len = K.len;
  outs = λ i n. K.outs i (λ x y. n (omega arith) (omega arith));
  ins = λ i x y. elim (dec_lt (r i) c) [
    | yes v ↦ let w = K.outs i (omega arith) in omega (arith, w.1)
    | no v ↦ elim (dec_lt (r i) e) [
      | yes t ↦ let w = K.ins i (omega arith) t in omega (arith, w.0, w.1)
      | no t ↦ let w = K.outs i (omega arith) in omega (arith, w.1)
    ]
  ];
}

-- what lies apart from c to e
pub apart : (s s' : List ℕ) (r r' : ℕ → ℕ) (c e lo hi : ℕ) → Kept s r s' r' c e → ((n : ℕ) → lo ≤ n → n < hi → c ≤ n → n < e → ⊥) → Still s r s' r' lo hi
apart s s' r r' c e lo hi K h i a b = K.outs i (h (r i) a b)

pub set_trans : (s s₁ s₂ : List ℕ) (q : ℕ) (c c' : Cell) → Set s s₁ q c → Set s₁ s₂ q c' → Set s s₂ q c'
set_trans s s₁ s₂ q c c' A B = record { here = B.here; others = λ i n. B.others i n ∙ A.others i n }
