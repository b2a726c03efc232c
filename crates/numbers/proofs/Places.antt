-- What stands at a place of a list, told by the list from there on.
-- Assumes nothing.
use Prim.Native.Nat.{ℕ, ◌+◌, ◌≤◌}
use mathlib.Core.Path.{◌≡◌, ap, sym, ◌∙◌}
use mathlib.Core.List.{List, ◌++◌}
use native.Mathlib.Nat.{add-zero}
use native.Mathlib.Omega.{arith}
use lib.ListN.{length, get_or, drop, length-drop, length-append}
use lib.Seq.{get_or-drop, drop-drop, drop-append_seam}

module _ (s : List ℕ) (i : ℕ) where
  pub first_at : (bs : List ℕ) → drop i s ≡ bs → get_or s i 0 ≡ get_or bs 0 0
  first_at bs e = rw add-zero at (sym (get_or-drop i s 0 0) ∙ ap (λ (l : List ℕ). get_or l 0 0) e)

  -- what stands behind a text, and that the text is inside
  pub past : (xs ys : List ℕ) → drop i s ≡ xs ++ ys → drop (i + length xs) s ≡ ys
  past xs ys e = sym (drop-drop (length xs) i s) ∙ ap (drop (length xs)) e ∙ drop-append_seam xs ys

  pub inside : (xs ys : List ℕ) → drop i s ≡ xs ++ ys → 1 ≤ length xs → i + length xs ≤ length s
  inside xs ys e some = omega (arith, length-drop i s, ap length e, length-append xs ys)
