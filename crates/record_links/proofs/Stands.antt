-- A usage is read from the cells of its records alone, and these are the ones with ranks from lo up to hi: where these cells are
-- as they were, and the ranks too but for a shift, it stands as before.
-- Assumes nothing.
use Prim.Native.Nat.{ℕ, zero, suc, ◌+◌, ◌-◌, ◌≤◌, ◌<◌}
use mathlib.Core.Path.{◌≡◌, refl, sym, ap, ◌∙◌, subst}
use mathlib.Core.List.{List}
use lib.ListN.{length}
use native.Mathlib.Omega.{arith}
use Rattle.definitions.specs.Usage.{Size, Usage, unused, leaf, map, array, Entries, none, entry, size, count}
use Rattle.definitions.specs.Command.{head_of}
use Rattle.records.specs.Records.{Cell, cell, next_in, child_in, argument_in}
use Rattle.record_links.specs.Standing.{Root, walk, reached, Finger, Stands, Row}
use Rattle.record_links.specs.Rows.{Down, link, Up}
use Rattle.record_links.specs.Frames.{Still}

-- Roots

pub stands_root : (u : Usage) (s : List ℕ) (q : ℕ) (r : ℕ → ℕ) (lo hi : ℕ) → Stands u s q r lo hi → Root s q r lo hi (head_of u).command (size u)
unfolding Stands
stands_root (unused z) s q r lo hi h = h
stands_root (leaf z k t) s q r lo hi h = h.0
stands_root (map z es) s q r lo hi h = h.0
stands_root (array z n e) s q r lo hi h = h.0

pub stands_le : (u : Usage) (s : List ℕ) (q : ℕ) (r : ℕ → ℕ) (lo hi : ℕ) → Stands u s q r lo hi → lo < hi
stands_le u s q r lo hi h = let R = stands_root u s q r lo hi h in omega (arith, R.low, R.high)

pub row_le : (es : Entries) (s : List ℕ) (q e : ℕ) (r : ℕ → ℕ) (lo hi : ℕ) → Row es s q e r lo hi → lo ≤ hi
unfolding Stands
row_le none s q e r lo hi h = h.1
row_le (entry o u es) s q e r lo hi h = omega (arith, stands_le u s q r lo h.0 h.2, row_le es s (next_in s q) e r h.0 hi h.3)

pub down_le : (es : Entries) (s : List ℕ) (q : ℕ) (r : ℕ → ℕ) (lo hi : ℕ) → Down es s q r lo hi → lo ≤ hi
unfolding Down
down_le none s q r lo hi h = h.1
down_le (entry o u es) s q r lo hi h = omega (arith, stands_le u s q r h.0 hi h.2, down_le es s (next_in s q) r lo h.0 h.3)

pub up_le : (es : Entries) (s : List ℕ) (a l : ℕ) (r : ℕ → ℕ) (lo hi : ℕ) → Up es s a l r lo hi → lo ≤ hi
unfolding Up
up_le none s a l r lo hi h = h.1
up_le (entry o u es) s a l r lo hi h = omega (arith, stands_le u s l r h.0 hi h.4, up_le es s a h.1 r lo h.0 h.5)

-- Fingers

-- a walk along the entries reads none but their links
pub walk_still : (es : Entries) (s s' : List ℕ) (q e : ℕ) (r : ℕ → ℕ) (lo hi i : ℕ) → ((x : ℕ) → lo ≤ r x → r x < hi → cell s' x ≡ cell s x) → Row es s q e r lo hi → i ≤ count es
    → walk s' q i ≡ walk s q i
unfolding Stands walk
walk_still es s s' q e r lo hi zero A h le = refl
walk_still none s s' q e r lo hi (suc i) A h le = absurd (omega arith)
walk_still (entry o u es) s s' q e r lo hi (suc i) A h le =
    let m : ℕ = h.0 in
    let lm : lo < m = stands_le u s q r lo m h.2 in
    let mh : m ≤ hi = row_le es s (next_in s q) e r m hi h.3 in
    let R = stands_root u s q r lo m h.2 in
    let w = A q R.low (omega (arith, R.high)) in
    ap (λ (x : ℕ). walk s' x i) (ap (λ (x : Cell). x.next) w) ∙ walk_still es s s' (next_in s q) e r m hi i (λ x a b. A x (omega arith) b) h.3 (omega arith)

-- the entries that are reached, and so the finger, where the records of the entries are as they were, at the same record or another

pub reached_still : (es : Entries) (s s' : List ℕ) (a a' : ℕ) (r : ℕ → ℕ) (lo hi i : ℕ) → child_in s' a' ≡ child_in s a → ((x : ℕ) → lo ≤ r x → r x < hi → cell s' x ≡ cell s x)
    → Row es s (child_in s a) 0 r lo hi → i ≤ count es → reached s' a' i ≡ reached s a i
unfolding reached
reached_still es s s' a a' r lo hi zero ec A h le = refl
reached_still es s s' a a' r lo hi (suc i) ec A h le = ap (λ (x : ℕ). walk s' x i) ec ∙ walk_still es s s' (child_in s a) 0 r lo hi i A h (omega arith)

pub finger_still : (es : Entries) (s s' : List ℕ) (a a' : ℕ) (r : ℕ → ℕ) (lo hi : ℕ) → child_in s' a' ≡ child_in s a → argument_in s' a' ≡ argument_in s a
    → ((x : ℕ) → lo ≤ r x → r x < hi → cell s' x ≡ cell s x) → Row es s (child_in s a) 0 r lo hi → Finger es s a → Finger es s' a'
finger_still es s s' a a' r lo hi ec ea A h F = record { index = F.index; upto = F.upto; is = ea ∙ F.is ∙ sym (reached_still es s s' a a' r lo hi F.index ec A h F.upto) }

-- Moving

-- what is the same from s, r to s', r' where the ranks are from lo to hi: the records, and the ranks but for a shift
abbrev pub Alike : List ℕ → (ℕ → ℕ) → List ℕ → (ℕ → ℕ) → ℕ → ℕ → ℕ → ℕ → Type 0
Alike s r s' r' lo hi k k' = (i : ℕ) → lo ≤ r i → r i < hi → (cell s' i ≡ cell s i) × (r' i + k' ≡ r i + k)

-- a root whose record is as it was says what it said, in any interval of ranks that its own lies in
pub root_same : (s s' : List ℕ) (q : ℕ) (r r' : ℕ → ℕ) (lo hi lo' hi' c : ℕ) (z : Size) → length s' ≡ length s → cell s' q ≡ cell s q → lo' ≤ r' q → r' q < hi'
    → Root s q r lo hi c z → Root s' q r' lo' hi' c z
root_same s s' q r r' lo hi lo' hi' c z len e low high R = record {
  some = R.some;
  inside = omega (arith, R.inside);
  low = low;
  high = high;
  command = ap (λ (x : Cell). x.command) e ∙ R.command;
  size = ap (λ (x : Cell). x.size) e ∙ R.size;
}

pub root_move : (s s' : List ℕ) (q : ℕ) (r r' : ℕ → ℕ) (lo hi lo' hi' k k' c : ℕ) (z : Size) → length s' ≡ length s → lo' + k' ≡ lo + k → hi' + k' ≡ hi + k
    → Alike s r s' r' lo hi k k' → Root s q r lo hi c z → Root s' q r' lo' hi' c z
root_move s s' q r r' lo hi lo' hi' k k' c z len el eh A R =
    let w = A q R.low R.high in
    root_same s s' q r r' lo hi lo' hi' c z len w.0 (omega (arith, R.low, w.1)) (omega (arith, R.high, w.1)) R

mutual
  unfolding Stands

  pub stands_move : (u : Usage) (s s' : List ℕ) (q : ℕ) (r r' : ℕ → ℕ) (lo hi lo' hi' k k' : ℕ) → length s' ≡ length s → lo' + k' ≡ lo + k → hi' + k' ≡ hi + k
      → Alike s r s' r' lo hi k k' → Stands u s q r lo hi → Stands u s' q r' lo' hi'
  stands_move (unused z) s s' q r r' lo hi lo' hi' k k' len el eh A h = root_move s s' q r r' lo hi lo' hi' k k' 0 z len el eh A h
  stands_move (leaf z b t) s s' q r r' lo hi lo' hi' k k' len el eh A h =
      let w = A q h.0.low h.0.high in
      (root_move s s' q r r' lo hi lo' hi' k k' (head_of (leaf z b t)).command z len el eh A h.0, ap (λ (x : Cell). x.argument) w.0 ∙ h.1)
  stands_move (map z es) s s' q r r' lo hi lo' hi' k k' len el eh A h =
      let w = A q h.0.low h.0.high in
      let ll : lo ≤ r q = h.0.low in
      let ec : child_in s' q ≡ child_in s q = ap (λ (x : Cell). x.child) w.0 in (
        root_move s s' q r r' lo hi lo' hi' k k' 3 z len el eh A h.0,
        finger_still es s s' q q r (suc (r q)) hi ec (ap (λ (x : Cell). x.argument) w.0) (λ i a b. (A i (omega arith) b).0) h.2 h.1,
        subst (λ (c : ℕ). Row es s' c 0 r' (suc (r' q)) hi') (sym ec)
            (row_move es s s' (child_in s q) 0 r r' (suc (r q)) hi (suc (r' q)) hi' k k' len (omega (arith, w.1)) eh (λ i a b. A i (omega arith) b) h.2),
      )
  stands_move (array z n u) s s' q r r' lo hi lo' hi' k k' len el eh A h =
      let w = A q h.0.low h.0.high in
      let ll : lo ≤ r q = h.0.low in (
        root_move s s' q r r' lo hi lo' hi' k k' 4 z len el eh A h.0,
        ap (λ (x : Cell). x.argument) w.0 ∙ h.1,
        subst (λ (c : ℕ). Stands u s' c r' (suc (r' q)) hi') (ap (λ (x : Cell). x.child) (sym w.0))
            (stands_move u s s' (child_in s q) r r' (suc (r q)) hi (suc (r' q)) hi' k k' len (omega (arith, w.1)) eh (λ i a b. A i (omega arith) b) h.2),
      )

  pub row_move : (es : Entries) (s s' : List ℕ) (q e : ℕ) (r r' : ℕ → ℕ) (lo hi lo' hi' k k' : ℕ) → length s' ≡ length s → lo' + k' ≡ lo + k → hi' + k' ≡ hi + k
      → Alike s r s' r' lo hi k k' → Row es s q e r lo hi → Row es s' q e r' lo' hi'
  row_move none s s' q e r r' lo hi lo' hi' k k' len el eh A h = (h.0, omega (arith, h.1))
  row_move (entry o u es) s s' q e r r' lo hi lo' hi' k k' len el eh A h =
      let m : ℕ = h.0 in
      let lm : lo < m = stands_le u s q r lo m h.2 in
      let mh : m ≤ hi = row_le es s (next_in s q) e r m hi h.3 in
      let R : Root s q r lo m (head_of u).command (size u) = stands_root u s q r lo m h.2 in
      let w = A q R.low (omega (arith, R.high)) in
      let em : m + k - k' + k' ≡ m + k = omega arith in (
        m + k - k',
        ap (λ (x : Cell). x.offset) w.0 ∙ h.1,
        stands_move u s s' q r r' lo m lo' (m + k - k') k k' len el em (λ i a b. A i a (omega arith)) h.2,
        subst (λ (c : ℕ). Row es s' c e r' (m + k - k') hi') (ap (λ (x : Cell). x.next) (sym w.0))
            (row_move es s s' (next_in s q) e r r' m hi (m + k - k') hi' k k' len em eh (λ i a b. A i (omega arith) b) h.3),
      )

-- Where nothing has moved

shift : (s : List ℕ) (r : ℕ → ℕ) (s' : List ℕ) (r' : ℕ → ℕ) (lo hi : ℕ) → Still s r s' r' lo hi → Alike s r s' r' lo hi 0 0
shift s r s' r' lo hi A i a b = let w = A i a b in (w.0, omega (arith, w.1))

pub stands_still : (u : Usage) (s s' : List ℕ) (q : ℕ) (r r' : ℕ → ℕ) (lo hi : ℕ) → length s' ≡ length s → Still s r s' r' lo hi → Stands u s q r lo hi → Stands u s' q r' lo hi
stands_still u s s' q r r' lo hi len A h = stands_move u s s' q r r' lo hi lo hi 0 0 len refl refl (shift s r s' r' lo hi A) h

pub row_still : (es : Entries) (s s' : List ℕ) (q e : ℕ) (r r' : ℕ → ℕ) (lo hi : ℕ) → length s' ≡ length s → Still s r s' r' lo hi → Row es s q e r lo hi → Row es s' q e r' lo hi
row_still es s s' q e r r' lo hi len A h = row_move es s s' q e r r' lo hi lo hi 0 0 len refl refl (shift s r s' r' lo hi A) h

pub down_still : (es : Entries) (s s' : List ℕ) (q : ℕ) (r r' : ℕ → ℕ) (lo hi : ℕ) → length s' ≡ length s → Still s r s' r' lo hi → Down es s q r lo hi → Down es s' q r' lo hi
unfolding Down
down_still none s s' q r r' lo hi len A h = h
down_still (entry o u es) s s' q r r' lo hi len A h =
    let m : ℕ = h.0 in
    let mh : m < hi = stands_le u s q r m hi h.2 in
    let lm : lo ≤ m = down_le es s (next_in s q) r lo m h.3 in
    let R = stands_root u s q r m hi h.2 in
    let w = A q (omega (arith, R.low)) R.high in (
      m,
      ap (λ (x : Cell). x.offset) w.0 ∙ h.1,
      stands_still u s s' q r r' m hi len (λ i a b. A i (omega arith) b) h.2,
      subst (λ (c : ℕ). Down es s' c r' lo m) (ap (λ (x : Cell). x.next) (sym w.0)) (down_still es s s' (next_in s q) r r' lo m len (λ i a b. A i a (omega arith)) h.3),
    )

pub link_suc : (s : List ℕ) (a p : ℕ) → 1 ≤ p → link s a p ≡ next_in s p
unfolding link
link_suc s a zero h = absurd (omega arith)
link_suc s a (suc p) h = refl

pub link_zero : (s : List ℕ) (a p : ℕ) → p ≡ 0 → link s a p ≡ child_in s a
unfolding link
link_zero s a p e = rw e

pub link_still : (es : Entries) (s s' : List ℕ) (a p : ℕ) (r r' : ℕ → ℕ) (lo hi : ℕ) → child_in s' a ≡ child_in s a → Still s r s' r' lo hi → Up es s a p r lo hi → link s' a p ≡ link s a p
unfolding Up
link_still none s s' a p r r' lo hi ea A h = link_zero s' a p h.0 ∙ ea ∙ sym (link_zero s a p h.0)
link_still (entry o u es) s s' a p r r' lo hi ea A h =
    let R = stands_root u s p r h.0 hi h.4 in
    let w = A p (omega (arith, R.low, up_le es s a h.1 r lo h.0 h.5)) R.high in
    link_suc s' a p R.some ∙ ap (λ (x : Cell). x.next) w.0 ∙ sym (link_suc s a p R.some)

pub up_still : (es : Entries) (s s' : List ℕ) (a l : ℕ) (r r' : ℕ → ℕ) (lo hi : ℕ) → length s' ≡ length s → child_in s' a ≡ child_in s a → Still s r s' r' lo hi
    → Up es s a l r lo hi → Up es s' a l r' lo hi
unfolding Up
up_still none s s' a l r r' lo hi len ea A h = h
up_still (entry o u es) s s' a l r r' lo hi len ea A h =
    let m : ℕ = h.0 in
    let mh : m < hi = stands_le u s l r m hi h.4 in
    let lm : lo ≤ m = up_le es s a h.1 r lo m h.5 in
    let R = stands_root u s l r m hi h.4 in
    let w = A l (omega (arith, R.low)) R.high in (
      m,
      h.1,
      ap (λ (x : Cell). x.offset) w.0 ∙ h.2,
      link_still es s s' a h.1 r r' lo m ea (λ i a b. A i a (omega arith)) h.5 ∙ h.3,
      stands_still u s s' l r r' m hi len (λ i a b. A i (omega arith) b) h.4,
      up_still es s s' a h.1 r r' lo m len ea (λ i a b. A i a (omega arith)) h.5,
    )

-- where no cell has changed (the spare words may)
pub stands_marks : (u : Usage) (s s' : List ℕ) (q : ℕ) (r : ℕ → ℕ) (lo hi : ℕ) → length s' ≡ length s → ((i : ℕ) → cell s' i ≡ cell s i) → Stands u s q r lo hi → Stands u s' q r lo hi
stands_marks u s s' q r lo hi len A h = stands_still u s s' q r r lo hi len (λ i a b. (A i, refl)) h

-- Wider intervals

pub root_wide : (s : List ℕ) (q : ℕ) (r : ℕ → ℕ) (lo hi lo' hi' c : ℕ) (z : Size) → lo' ≤ lo → hi ≤ hi' → Root s q r lo hi c z → Root s q r lo' hi' c z
root_wide s q r lo hi lo' hi' c z a b R = root_same s s q r r lo hi lo' hi' c z refl refl (omega (arith, R.low)) (omega (arith, R.high)) R

pub row_wide : (es : Entries) (s : List ℕ) (q e : ℕ) (r : ℕ → ℕ) (lo hi hi' : ℕ) → hi ≤ hi' → Row es s q e r lo hi → Row es s q e r lo hi'
unfolding Stands
row_wide none s q e r lo hi hi' b h = (h.0, omega (arith, h.1))
row_wide (entry o u es) s q e r lo hi hi' b h = (h.0, h.1, h.2, row_wide es s (next_in s q) e r h.0 hi hi' b h.3)

pub stands_wide : (u : Usage) (s : List ℕ) (q : ℕ) (r : ℕ → ℕ) (lo hi lo' hi' : ℕ) → lo' ≤ lo → hi ≤ hi' → Stands u s q r lo hi → Stands u s q r lo' hi'
unfolding Stands
stands_wide (unused z) s q r lo hi lo' hi' a b h = root_wide s q r lo hi lo' hi' 0 z a b h
stands_wide (leaf z k t) s q r lo hi lo' hi' a b h = (root_wide s q r lo hi lo' hi' (head_of (leaf z k t)).command z a b h.0, h.1)
stands_wide (map z es) s q r lo hi lo' hi' a b h = (root_wide s q r lo hi lo' hi' 3 z a b h.0, h.1, row_wide es s (child_in s q) 0 r (suc (r q)) hi hi' b h.2)
stands_wide (array z n e) s q r lo hi lo' hi' a b h = (root_wide s q r lo hi lo' hi' 4 z a b h.0, h.1, stands_wide e s (child_in s q) r (suc (r q)) hi (suc (r q)) hi' (omega arith) b h.2)

pub row_low : (es : Entries) (s : List ℕ) (q e : ℕ) (r : ℕ → ℕ) (lo lo' hi : ℕ) → lo' ≤ lo → Row es s q e r lo hi → Row es s q e r lo' hi
unfolding Stands
row_low none s q e r lo lo' hi b h = (h.0, omega (arith, h.1))
row_low (entry o u es) s q e r lo lo' hi b h = (h.0, h.1, stands_wide u s q r lo h.0 lo' h.0 b (omega arith) h.2, h.3)

pub up_wide : (es : Entries) (s : List ℕ) (a l : ℕ) (r : ℕ → ℕ) (lo hi hi' : ℕ) → hi ≤ hi' → Up es s a l r lo hi → Up es s a l r lo hi'
unfolding Up
up_wide none s a l r lo hi hi' b h = (h.0, omega (arith, h.1))
up_wide (entry o u es) s a l r lo hi hi' b h = (h.0, h.1, h.2, h.3, stands_wide u s l r h.0 hi h.0 hi' (omega arith) b h.4, h.5)
