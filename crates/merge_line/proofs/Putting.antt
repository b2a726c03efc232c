-- Bytes put behind one another: each is a store, which changes nothing else.
-- Assumes nothing.
use Rattle.std.proofs.Common.{◌≡◌, ℕ, ◌+◌, List, ◌++◌, length, ◌∙◌, arith, length-append}
use Rattle.report.proofs.Emitting.{emitted_after}
use Rattle.merge_line.specs.declared.Writer.{Writer}
use Rattle.merge_line.specs.Put.{Put}

pub put_after : {w w₁ w₂ : Writer} {xs ys : List ℕ} → Put w xs w₁ → Put w₁ ys w₂ → Put w (xs ++ ys) w₂
put_after {w} {w₁} {w₂} {xs} {ys} A B =
    let both : length (xs ++ ys) ≡ length xs + length ys = length-append xs ys in
    record {
      emitted = emitted_after A.emitted B.emitted;
      behind = λ h i le. B.behind (omega arith) i (omega arith) ∙ A.behind (omega arith) i (omega arith);
    }
