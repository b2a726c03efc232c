-- Entries behind one another: each offset is above all before it, since they ascend.
-- Assumes nothing.
use Prim.Native.Nat.{ℕ, suc, ◌<◌, ◌≤◌}
use native.Mathlib.Omega.{arith}
use Rattle.definitions.specs.Usage.{Usage, Entries, none, entry, ◌<+>◌}
use Rattle.definitions.specs.Sound.{Ascends}
use Rattle.definitions.proofs.Storable.{ascends_back, ascends_behind}
use Rattle.place_states.specs.Continuation.{UpTo, FromOn}

-- every offset is below d
abbrev pub Under : ℕ → Entries → Type 0
Under d none = Unit {0}
Under d (entry o u es) = (o < d) × Under d es

pub under_of : (k : ℕ) (es : Entries) (o : ℕ) (u : Usage) (fs : Entries) (p : ℕ) → Ascends k p (es <+> entry o u fs) → Under o es
under_of k none o u fs p c = tt
under_of k (entry o' u' es) o u fs p c = (omega (arith, (ascends_back k es (entry o u fs) (suc o') c.3).0), under_of k es o u fs (suc o') c.3)

pub under_upto : (es : Entries) {o d : ℕ} → o ≤ d → Under o es → UpTo d es
under_upto none le h = tt
under_upto (entry o' u es) le h = (omega arith, under_upto es le h.1)

pub under_front : (es fs : Entries) (d : ℕ) → Under d (es <+> fs) → Under d es
under_front none fs d h = tt
under_front (entry o u es) fs d h = (h.0, under_front es fs d h.1)

pub under_one_more : (es : Entries) (o d : ℕ) (u : Usage) → Under o es → o < d → Under d (es <+> entry o u none)
under_one_more none o d u h lt = (lt, tt)
under_one_more (entry o' u' es) o d u h lt = (omega arith, under_one_more es o d u h.1 lt)

pub upto_last : (es : Entries) (o d : ℕ) (u : Usage) → UpTo d (es <+> entry o u none) → o ≤ d
upto_last none o d u h = h.0
upto_last (entry o' u' es) o d u h = upto_last es o d u h.1

pub upto_one_more : (es : Entries) (o d : ℕ) (u : Usage) → Under o es → o ≤ d → UpTo d (es <+> entry o u none)
upto_one_more none o d u h le = (le, tt)
upto_one_more (entry o' u' es) o d u h le = (omega arith, upto_one_more es o d u h.1 le)

pub from_less : (es : Entries) {o d : ℕ} → o ≤ d → FromOn d es → FromOn o es
from_less none le h = tt
from_less (entry o' u es) le h = (omega arith, from_less es le h.1)

-- with one of the middle left out
pub ascends_without : (k : ℕ) (low mid : Entries) (o : ℕ) (u : Usage) (high : Entries) → Ascends k 0 (low <+> mid <+> entry o u high) → Ascends k 0 (low <+> mid <+> high)
ascends_without k low mid o u high c =
    ascends_behind k low (mid <+> entry o u high) (mid <+> high) 0
    (λ p c₁. ascends_behind k mid (entry o u high) high p (λ p c₂. ascends_back k (entry o u none) high p c₂) c₁) c
