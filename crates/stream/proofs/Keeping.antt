-- The levels of a window: a store leaves those below it as they were, so what is pushed stands above them, and is what is popped.
-- Assumes nothing.
use Prim.Native.Nat.{ℕ, zero, suc, ◌+◌, ◌*◌, ◌-◌, ◌≤◌, ◌<◌}
use mathlib.Core.Path.{◌≡◌, refl, sym, ap, ◌∙◌}
use mathlib.Core.List.{List, [], ◌∷◌}
use native.Mathlib.Omega.{arith}
use lib.ListN.{length}
use Rattle.numbers.specs.Words.{number_at, put_at, word, put}
use Rattle.numbers.proofs.Numbers.{length_put, number_put, number_put_other}
use Rattle.stream.specs.Walk.{level, total, owing}
use Rattle.stream.specs.Window.{kept, levels, Held, Popped, Pushed}
use Rattle.stream.specs.declared.maps.Maps.{Maps}
use Rattle.stream.proofs.Owing.{owing_shut}

kept_same : (w w' : List ℕ) (d : ℕ)
    → ((i : ℕ) → i < d → (number_at 2 w' (i * 6) ≡ number_at 2 w (i * 6)) × (word w' (i * 6 + 2) ≡ word w (i * 6 + 2))) → kept w' d ≡ kept w d
unfolding kept
kept_same w w' zero h = refl
kept_same w w' (suc d) h =
    let here = h d (omega arith) in
    let below = kept_same w w' d (λ i lt. h i (omega arith)) in
    cc

kept_top : (w : List ℕ) (d : ℕ) (m : Maps) → m.left ≡ suc (number_at 2 w (d * 6)) → m.last ≡ word w (d * 6 + 2) → m.outer ≡ d
    → kept w (suc d) ≡ levels m w
unfolding kept
kept_top w d m left last outer = rw (left, last, outer)

pub no_levels : (w : List ℕ) (d : ℕ) → d ≡ 0 → kept w d ≡ []
unfolding kept
no_levels w d e = rw e

pub none_left : (m : Maps) (w : List ℕ) → Held m w → m.left ≡ 0 → levels m w ≡ level 0 (suc m.last) ∷ []
none_left m w held e = rw (e, no_levels w m.outer (held.inner e))

-- Pushing

module _ (w : List ℕ) (d v o : ℕ) (room : d * 6 + 6 ≤ length w) (small : v < 65536) (fits : o < 4294967296) where
  -- the window with one more level
  abbrev more : List ℕ
  more = put (put_at 2 w (d * 6) v) (d * 6 + 2) o

  left_there : number_at 2 more (d * 6) ≡ v
  left_there =
      number_put_other 4 2 (put_at 2 w (d * 6) v) (d * 6 + 2) o (d * 6) (λ a b. omega arith) ∙ number_put 2 w (d * 6) v (omega arith) small

  last_there : word more (d * 6 + 2) ≡ o
  last_there = number_put 4 (put_at 2 w (d * 6) v) (d * 6 + 2) o (omega (arith, length_put 2 w (d * 6) v)) fits

  below_there : kept more d ≡ kept w d
  below_there =
      kept_same w more d λ i lt. (
        number_put_other 4 2 (put_at 2 w (d * 6) v) (d * 6 + 2) o (i * 6) (λ a b. omega arith)
            ∙ number_put_other 2 2 w (d * 6) v (i * 6) (λ a b. omega arith),
        number_put_other 4 4 (put_at 2 w (d * 6) v) (d * 6 + 2) o (i * 6 + 2) (λ a b. omega arith)
            ∙ number_put_other 2 4 w (d * 6) v (i * 6 + 2) (λ a b. omega arith),
      )

  kept_more : kept more (suc d) ≡ level (suc v) (suc o) ∷ kept w d
  unfolding kept
  kept_more = rw (left_there, last_there, below_there)

pub push_top : (m : Maps) (w w₁ w₂ : List ℕ) (m' : Maps) → m.outer * 6 + 6 ≤ length w → 1 ≤ m.left → m.left ≤ 65536 → m.last < 4294967296
    → w₁ ≡ put_at 2 w (m.outer * 6) (m.left - 1) → w₂ ≡ put w₁ (m.outer * 6 + 2) m.last → m'.left ≡ 0 → m'.outer ≡ m.outer + 1
    → Pushed m w w₂ m'
push_top m w w₁ w₂ m' room some small fits e f empty outer =
    let written : w₂ ≡ put (put_at 2 w (m.outer * 6) (m.left - 1)) (m.outer * 6 + 2) m.last = cc in
    let one : m'.outer ≡ suc m.outer = omega arith in
    let left : suc (m.left - 1) ≡ m.left = omega arith in
    record {
      room = rw (written, one) (omega (arith, length_put 2 w (m.outer * 6) (m.left - 1), length_put 4 (put_at 2 w (m.outer * 6) (m.left - 1)) (m.outer * 6 + 2) m.last));
      empty = empty;
      same =
          rw (written, one)
          (kept_more w m.outer (m.left - 1) m.last room (omega arith) fits ∙ ap (λ l. level l (suc m.last) ∷ kept w m.outer) left);
    }

-- Popping

pub pop_none : (d : ℕ) (w : List ℕ) (m : Maps) → d ≡ 0 → m.left ≡ 0 → m.outer ≡ d → Popped d w m
pop_none d w m none left outer =
    record {
      held = record { room = omega arith; small = omega arith; inner = λ _. omega arith };
      same = λ n t k bs. rw (left, outer) (sym (owing_shut n t (suc m.last) (kept w d) k bs));
      count = rw (left, outer) (omega arith);
    }

pub pop_top : (d : ℕ) (w : List ℕ) (m : Maps) → number_at 2 w ((d - 1) * 6) < 65536 → d * 6 ≤ length w → (d ≡ 0 → ⊥)
    → m.left ≡ number_at 2 w ((d - 1) * 6) + 1 → m.last ≡ word w ((d - 1) * 6 + 2) → m.outer ≡ d - 1 → Popped d w m
pop_top d w m small room some left last outer =
    let is : d ≡ suc (d - 1) = omega arith in
    let same : kept w d ≡ levels m w = ap (kept w) is ∙ kept_top w (d - 1) m (omega arith) last outer in
    record {
      held = record { room = omega arith; small = omega arith; inner = λ none. absurd (omega arith) };
      same = λ n t k bs. ap (λ ls. owing n t ls k bs) same;
      count = ap total same;
    }
