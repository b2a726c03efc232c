-- What a node itself must keep to be sound, apart from what lies below it: `sound` asks it of every node.
-- Assumes nothing.
use Rattle.std.specs.Prelude.{ℕ, ◌≡◌, Bool, true, false, ◌&&◌, not, leb, Option, MatchOption}
use Rattle.definitions.specs.Usage.{Size, fixed, Usage, unused, leaf, map, array, Entries, none, entry, size}
use Rattle.definitions.specs.Place.{ends, past32, ◌≤ˢ◌}
use Rattle.definitions.specs.Sound.{is_fixed}
use Rattle.qptr.specs.declared.MaxSize.{MaxSize}
use Rattle.qptr.specs.Values.{size_of}

-- an entry of size z at o starts at p or later, is not empty and ends within 32 bits
unfoldable pub follows : Size → ℕ → Size → Bool
follows p o z = (p ≤ˢ fixed o) && ((fixed 1 ≤ˢ z) && not (past32 (ends o z)))

-- r is where such an entry ends; none where it does not follow
abbrev pub Followed : Size → ℕ → Size → Option MaxSize → Type 0
Followed p o z r = MatchOption r (follows p o z ≡ false) (λ end. (follows p o z ≡ true) × (size_of end ≡ ends o z))

-- from the place p on, each entry follows the one before it, and the last ends by y
unfoldable pub following : Size → Size → Entries → Bool
following p y none = p ≤ˢ y
following p y (entry o u es) = follows p o (size u) && following (ends o (size u)) y es

-- an element of size z is fixed, and fills the stride
unfoldable pub fills : ℕ → Size → Bool
fills n z = leb 1 n && is_fixed n z

unfoldable pub own : Usage → Bool
own (unused s) = not (past32 s)
own (leaf s k t) = not (past32 s) && (fixed 1 ≤ˢ s)
own (map s es) = not (past32 s) && ((fixed 1 ≤ˢ s) && following (fixed 0) s es)
own (array s n e) = not (past32 s) && ((fixed 1 ≤ˢ s) && fills n (size e))
