-- A tag is of one number and one answer.
-- Assumes nothing.
use Rattle.std.proofs.Common.{◌≡◌, ℕ, Bool, true, false, refl, arith}
use Rattle.support_cache.specs.Cached.{tag_of}

pub one_tag : (t ty : ℕ) (c b : Bool) → tag_of ty b ≡ tag_of t c → (t ≡ ty) × (c ≡ b)
one_tag t ty true true e = (omega arith, refl)
one_tag t ty true false e = absurd (omega arith)
one_tag t ty false true e = absurd (omega arith)
one_tag t ty false false e = (omega arith, refl)
