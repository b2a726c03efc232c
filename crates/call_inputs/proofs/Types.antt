-- A bound on the types says whether the table has them all: it is the largest type, and one more.
-- Assumes nothing.
use Prim.Native.Nat.{ℕ, suc, max}
use mathlib.Core.Path.{◌≡◌, refl}
use mathlib.Core.Bool.{Bool, true, false, ◌&&◌}
use mathlib.Core.List.{List, [], ◌∷◌}
use native.Mathlib.Omega.{arith}
use borrow.Author.Tests.{ltb-true, ltb-false, leb-true, leb-false, le-leb, lt-leb}
use lib.Dec.{ltb, leb}
use lib.ListN.{length}
use Rattle.definitions.specs.Usage.{Usage, unused, leaf, map, array, Entries, none, entry, Top, opaque, buffer, memory}
use Rattle.definitions.specs.Table.{Table}
use Rattle.definitions.specs.Calls.{types_in, entry_types_in, top_types_in, all_types_in}
use Rattle.stream.specs.Found.{type_bound, type_bound_in, top_bound, bound_of}

none_within : (n : ℕ) → true ≡ leb 0 n
none_within n = rw (le-leb 0 n (omega arith))

pub one_within : (a n : ℕ) → ltb a n ≡ leb (suc a) n
one_within a n = go (ltb a n) refl
  where
    go : (r : Bool) → ltb a n ≡ r → r ≡ leb (suc a) n
    go true e = rw (le-leb (suc a) n (omega (arith, ltb-true a n e)))
    go false e = rw (lt-leb (suc a) n (omega (arith, ltb-false a n e)))

pub both_within : (a b n : ℕ) → (leb a n && leb b n) ≡ leb (max a b) n
both_within a b n = go (leb a n) refl (leb b n) refl
  where
    go : (p : Bool) → leb a n ≡ p → (q : Bool) → leb b n ≡ q → (p && q) ≡ leb (max a b) n
    go true e true f = rw (le-leb (max a b) n (omega (arith, leb-true a n e, leb-true b n f)))
    go true e false f = rw (lt-leb (max a b) n (omega (arith, leb-false b n f)))
    go false e q f = rw (lt-leb (max a b) n (omega (arith, leb-false a n e)))

module _ (t : Table) where
  mutual
    pub types_in_lem : (u : Usage) → types_in t u ≡ leb (type_bound u) (length t)
    types_in_lem (unused s) = none_within (length t)
    types_in_lem (leaf s k ty) = one_within ty (length t)
    types_in_lem (map s es) = entry_types_in_lem es
    types_in_lem (array s n e) = types_in_lem e

    entry_types_in_lem : (es : Entries) → entry_types_in t es ≡ leb (type_bound_in es) (length t)
    entry_types_in_lem none = none_within (length t)
    entry_types_in_lem (entry o u es) = rw (types_in_lem u, entry_types_in_lem es) (both_within (type_bound u) (type_bound_in es) (length t))

  pub top_types_in_lem : (x : Top) → top_types_in t x ≡ leb (top_bound x) (length t)
  top_types_in_lem (opaque ty) = one_within ty (length t)
  top_types_in_lem (buffer u) = types_in_lem u
  top_types_in_lem (memory u) = types_in_lem u

  pub all_types_in_lem : (us : List Usage) → all_types_in t us ≡ leb (bound_of us) (length t)
  all_types_in_lem [] = none_within (length t)
  all_types_in_lem (u ∷ us) = rw (types_in_lem u, all_types_in_lem us) (both_within (type_bound u) (bound_of us) (length t))
