-- A report that comes to the start of a buffer, before zeros.
-- Assumes nothing.
use Prim.Native.Nat.{ℕ, ◌-◌, ◌≤◌}
use mathlib.Core.Path.{◌≡◌, refl, ◌∙◌}
use mathlib.Core.List.{List, ◌++◌}
use native.Mathlib.Omega.{arith}
use lib.ListN.{length, take, drop, replicate, length-append, length-drop}
use lib.Seq.{take_at}

module _ (w report : List ℕ) where
  pub reported : {copied zeroed : List ℕ} → copied ≡ w ++ drop (length w) report → length w ≤ length report
      → zeroed ≡ take (length w) copied ++ replicate (length copied - length w) 0
      → zeroed ≡ w ++ replicate (length report - length w) 0
  reported is room e =
      let rest = drop (length w) report in
      let long : length (w ++ rest) ≡ length report = omega (arith, length-append w rest, length-drop (length w) report) in
      e ∙ rw (is, take_at w rest (length w) refl, long)
