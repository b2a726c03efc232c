-- A line of entries, upwards or downwards: its first entry, one more before it, its end, and what a change of one record leaves alone.
-- Assumes nothing.
use Prim.Native.Nat.{ℕ, ◌+◌, ◌<◌, ◌≤◌}
use mathlib.Core.Path.{◌≡◌, refl, sym, ap, ◌∙◌}
use mathlib.Core.Bool.{Bool, true, false, not}
use mathlib.Core.List.{List}
use lib.ListN.{length}
use native.Mathlib.Omega.{arith}
use Rattle.definitions.specs.Usage.{Usage, Entries, none, entry, count, ◌<+>◌}
use Rattle.records.specs.Records.{next_in, offset_in}
use Rattle.record_links.specs.Standing.{Stands}
use Rattle.record_links.specs.Rows.{Down, chain}
use Rattle.record_links.specs.Frames.{Kept}
use Rattle.record_links.proofs.Stands.{row_le, down_le, stands_wide, row_low, row_still, down_still}
use Rattle.record_links.proofs.Frames.{kept_widen, apart}
use Rattle.record_links.proofs.Rows.{head, top, end, bottom, first_past, row_in, down_in, row_one, down_one, row_app}
use Rattle.record_links.proofs.Chains.{chain_many, down_chain}
use Rattle.record_links.proofs.Entries.{append_count}
use Rattle.place_maps.specs.Runs.{Line, lower}

pub line_le : (up : Bool) (es : Entries) (s : List ℕ) (q e : ℕ) (r : ℕ → ℕ) (n m : ℕ) → Line up es s q e r n m → lower up n m ≤ lower up m n
line_le true es s q e r n m h = row_le es s q e r n m h
line_le false es s q e r n m h = down_le es s q r m n h.0

-- m lies between n and z
pub lower_trans : (up : Bool) (n m z : ℕ) → lower up n m ≤ lower up m n → lower up m z ≤ lower up z m → lower up n z ≤ lower up z n
lower_trans true n m z a b = omega arith
lower_trans false n m z a b = omega arith

pub record First (up : Bool) (es : Entries) (s : List ℕ) (q e : ℕ) (r : ℕ → ℕ) (n m : ℕ) : Type 0 where
  pub u : Usage
  pub rest : Entries
  pub k : ℕ
  pub is : es ≡ entry (offset_in s q) u rest
  pub stands : Stands u s q r (lower up n k) (lower up k n)
  pub line : Line up rest s (next_in s q) e r k m

pub first : (up : Bool) (es : Entries) (s : List ℕ) (q e : ℕ) (r : ℕ → ℕ) (n m : ℕ) → (q ≡ e → ⊥) → Line up es s q e r n m → First up es s q e r n m
first true es s q e r n m ne h = let v = head es s q e r n m ne h in record { u = v.u; rest = v.rest; k = v.m; is = v.is; stands = v.stands; line = v.row }
first false es s q e r n m ne h =
    let v = top es s q r m n (λ z. ne (z ∙ sym h.1)) h.0 in
    record { u = v.u; rest = v.rest; k = v.m; is = v.is; stands = v.stands; line = (v.down, h.1) }

-- the first entry of a line stands before a line the other way
pub line_one : (up : Bool) (s : List ℕ) (o : ℕ) (u : Usage) (es : Entries) (q : ℕ) (r : ℕ → ℕ) (y n k : ℕ) → offset_in s q ≡ o → Stands u s q r (lower up n k) (lower up k n)
    → Line (not up) es s (next_in s q) 0 r n y → Line (not up) (entry o u es) s q 0 r k y
line_one true s o u es q r y n k eo h l = (down_one s o u es q r y n k eo h l.0, refl)
line_one false s o u es q r y n k eo h l = row_one s o u es q 0 r k n y eo h l

-- what changes has ranks between n and k; a line the one way that comes behind k, or the other way that comes behind n, is as it was
module _ (up : Bool) (es : Entries) (s s' : List ℕ) (q e : ℕ) (r : ℕ → ℕ) (n k : ℕ) (len : length s' ≡ length s) (K : Kept s r s' r (lower up n k) (lower up k n)) where
  pub line_ahead : (a b : ℕ) → lower up k a ≤ lower up a k → Line up es s q e r a b → Line up es s' q e r a b
  line_ahead a b = go up es K
    where
      go : (up : Bool) (es : Entries) → Kept s r s' r (lower up n k) (lower up k n) → lower up k a ≤ lower up a k → Line up es s q e r a b → Line up es s' q e r a b
      go true es K le h = row_still es s s' q e r r a b len (apart s s' r r n k a b K (omega arith)) h
      go false es K le h = (down_still es s s' q r r b a len (apart s s' r r k n b a K (omega arith)) h.0, h.1)

  pub line_behind : (b : ℕ) → Line (not up) es s q e r n b → Line (not up) es s' q e r n b
  line_behind b = go up es K
    where
      go : (up : Bool) (es : Entries) → Kept s r s' r (lower up n k) (lower up k n) → Line (not up) es s q e r n b → Line (not up) es s' q e r n b
      go true es K h = (down_still es s s' q r r b n len (apart s s' r r n k b n K (omega arith)) h.0, h.1)
      go false es K h = row_still es s s' q e r r n b len (apart s s' r r k n n b K (omega arith)) h

pub kept_between : (up : Bool) (s s' : List ℕ) (r : ℕ → ℕ) (n k k' m : ℕ) → lower up n k ≤ lower up k n → lower up k' m ≤ lower up m k' → Kept s r s' r (lower up k k') (lower up k' k)
    → Kept s r s' r (lower up n m) (lower up m n)
kept_between true s s' r n k k' m a b K = kept_widen s s' r r k k' n m a b K
kept_between false s s' r n k k' m a b K = kept_widen s s' r r k' k m n b a K

-- where a line ends nothing is left of it, since what comes behind has other ranks
pub line_end : (up : Bool) (es fs : Entries) (s : List ℕ) (q e : ℕ) (r : ℕ → ℕ) (n m z : ℕ) → q ≡ e → Line up es s q e r n m → Line up fs s e 0 r m z → es ≡ none
line_end true es fs s q e r n m z eq h g = end es s q e r n m eq (first_past fs s e r m z g) h
line_end false es fs s q e r n m z eq h g = bottom es s q r m n (eq ∙ h.1) h.0

down_wide : (es : Entries) (s : List ℕ) (q : ℕ) (r : ℕ → ℕ) (lo hi hi' : ℕ) → hi ≤ hi' → Down es s q r lo hi → Down es s q r lo hi'
unfolding Down
down_wide none s q r lo hi hi' b h = (h.0, omega (arith, h.1))
down_wide (entry o u es) s q r lo hi hi' b h = (h.0, h.1, stands_wide u s q r h.0 hi h.0 hi' (omega arith) b h.2, h.3)

-- a line the other way that begins at k begins behind m too
pub line_wide : (up : Bool) (es : Entries) (s : List ℕ) (q : ℕ) (r : ℕ → ℕ) (y k m : ℕ) → lower up k m ≤ lower up m k → Line (not up) es s q 0 r k y → Line (not up) es s q 0 r m y
line_wide true es s q r y k m le h = (down_wide es s q r y k m le h.0, h.1)
line_wide false es s q r y k m le h = row_low es s q 0 r k m y le h

-- the number of a line's first record fits two bytes
pub line_small : (up : Bool) (es : Entries) (s : List ℕ) (q : ℕ) (r : ℕ → ℕ) (n m : ℕ) → length s ≤ 2097152 → Line up es s q 0 r n m → q < 65536
line_small true es s q r n m f h = omega (arith, row_in es s q r n m 2097152 (omega arith) f h)
line_small false es s q r n m f h = omega (arith, down_in es s q r m n 2097152 (omega arith) f h.0)

pub line_chain : (up : Bool) (es fs : Entries) (s : List ℕ) (q e : ℕ) (r : ℕ → ℕ) (n m z : ℕ) → count es + count fs ≤ 65536 → Line up es s q e r n m → Line up fs s e 0 r m z
    → chain 65536 s q ≡ count es + count fs
line_chain true es fs s q e r n m z few h g = omega (arith, chain_many 65536 (es <+> fs) s q r n z (omega (arith, append_count es fs)) (row_app es fs s q e 0 r n m z h g), append_count es fs)
line_chain false es fs s q e r n m z few h g =
    let none : fs ≡ none = bottom fs s e r z m h.1 g.0 in
    omega (arith, down_chain 65536 es s q r m n (omega arith) h.0, ap count none)
