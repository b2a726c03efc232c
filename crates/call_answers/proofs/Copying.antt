-- A loop that copies bytes to the start of a buffer, one after the other.
-- Assumes nothing.
use Prim.Native.Nat.{ℕ, suc, ◌+◌, ◌<◌}
use mathlib.Core.Path.{◌≡◌, sym, ap, ◌∙◌}
use mathlib.Core.List.{List, ◌++◌}
use native.Mathlib.Nat.{zero-add}
use native.Mathlib.Omega.{arith}
use lib.ListN.{length, get_or, set, drop}
use lib.Seq.{take-length, paste, paste-suc}

-- i bytes of `from` have come to `to`, which else is as it was
module _ (from to₀ : List ℕ) {to : List ℕ} {i : ℕ} (so_far : to ≡ paste to₀ 0 from i) where
  pub copied_more : i < length from → i < length to₀ → set to i (get_or from i 0) ≡ paste to₀ 0 from (i + 1)
  copied_more more room =
      let next : suc i ≡ i + 1 = omega arith in
      ap (λ k. set k i (get_or from i 0)) so_far
      ∙ ap (λ k. set (paste to₀ 0 from i) k (get_or from i 0)) (sym (zero-add i))
      ∙ paste-suc to₀ 0 from i 0 (omega arith) more
      ∙ ap (paste to₀ 0 from) next

  pub copied_all : i ≡ length from → to ≡ from ++ drop (length from) to₀
  copied_all all = so_far ∙ rw (all, take-length from, zero-add (length from))
