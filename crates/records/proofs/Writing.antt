-- Records after stores: a store changes one field of one record, since no two fields meet, and what a record says is found from its
-- fields.
-- Assumes nothing.
use Prim.Native.Nat.{ℕ, ◌+◌, ◌-◌, ◌*◌, ◌^◌, ◌<◌, ◌≤◌}
use mathlib.Core.Path.{◌≡◌, ap, ◌∙◌}
use mathlib.Core.List.{List}
use native.Mathlib.Decide.{ℕ_discrete}
use native.Mathlib.Omega.{arith}
use lib.Dec.{eqb}
use lib.ListN.{length}
use borrow.Author.Tests.{eqb-true, eqb-false}
use Rattle.definitions.specs.If.{when◌then◌else◌}
use Rattle.definitions.proofs.Choice.{decide}
use Rattle.qptr.specs.Values.{size_of}
use Rattle.qptr.specs.declared.MaxSize.{MaxSize}
use Rattle.qptr.specs.declared.MaxSize.TheVariants.{Fixed, Dynamic}
use Rattle.numbers.specs.Words.{number_at, word, put_at, put}
use Rattle.numbers.proofs.Numbers.{length_put, number_put, number_put_other}
use Rattle.records.specs.Records.{size_from, command_in, next_in, child_in, count_in, argument_in, offset_in, Cell, cell, with_next, with_child, with_count, with_size, with_argument, with_offset, with_type, full, Set, Marked}

-- field k of a record, in their order: four of two bytes, then six of four

abbrev place : ℕ → ℕ
place k = k * 2 + (k - 4) * 2

abbrev width : ℕ → ℕ
width k = 2 + (k - 3 - (k - 4)) * 2

-- what field j is that was n, once v is put as field k
abbrev stored : ℕ → ℕ → ℕ → ℕ → ℕ
stored k v j n = when eqb j k then v else n

pub cell_is : (s : List ℕ) (q k f n l m z t o : ℕ) → command_in s q ≡ k → number_at 2 s (q * 32 + 2) ≡ f → next_in s q ≡ n → child_in s q ≡ l → count_in s q ≡ m → word s (q * 32 + 12) ≡ z → argument_in s q ≡ t → offset_in s q ≡ o
    → cell s q ≡ full k n l m (size_from f z) t o
cell_is s q k f n l m z t o ek ef en el em ez et eo = cc

module _ (s s' : List ℕ) (q k v i : ℕ) (e : s' ≡ put_at (width k) s i v) (at : i ≡ q * 32 + place k) (h : q * 32 + 32 ≤ length s) (some : k < 10) (f : v < 256 ^ width k) where
  here_only : (m j : ℕ) → j < 10 → m * 32 + place j < q * 32 + place k + width k → q * 32 + place k < m * 32 + place j + width j → (m ≡ q) × (j ≡ k)
  here_only m j lt a b =
      let ends : place k + width k ≤ 32 = omega arith in
      let ends' : place j + width j ≤ 32 = omega arith in
      let same : m ≡ q = omega (arith, a, b, ends, ends') in
      (same, omega arith)

  other : (m j x : ℕ) → x ≡ m * 32 + place j → j < 10 → (m ≡ q → j ≡ k → ⊥) → number_at (width j) s' x ≡ number_at (width j) s x
  other m j x there lt ne = rw e (number_put_other (width k) (width j) s i v x (λ a b. let z : _ = here_only m j lt (omega arith) (omega arith) in ne z.0 z.1))

  own : (j x : ℕ) → x ≡ q * 32 + place j → j < 10 → number_at (width j) s' x ≡ stored k v j (number_at (width j) s x)
  own j x there lt = decide (λ (n : ℕ). number_at (width j) s' x ≡ n) (eqb j k)
      (λ t. let same : j ≡ k = eqb-true j k t in let here : x ≡ i = omega arith in rw (e, here, same) (number_put (width k) s i v (omega arith) f))
      (λ t. other q j x there lt (λ a b. eqb-false j k t b))

  field_set : Set s s' q (full (stored k v 0 (command_in s q)) (stored k v 2 (next_in s q)) (stored k v 3 (child_in s q)) (stored k v 4 (count_in s q))
      (size_from (stored k v 1 (number_at 2 s (q * 32 + 2))) (stored k v 5 (word s (q * 32 + 12)))) (stored k v 6 (argument_in s q)) (stored k v 7 (offset_in s q)))
  field_set = record {
    here = cell_is s' q _ _ _ _ _ _ _ _
        (own 0 (q * 32) (omega arith) (omega arith))
        (own 1 (q * 32 + 2) (omega arith) (omega arith))
        (own 2 (q * 32 + 4) (omega arith) (omega arith))
        (own 3 (q * 32 + 6) (omega arith) (omega arith))
        (own 4 (q * 32 + 8) (omega arith) (omega arith))
        (own 5 (q * 32 + 12) (omega arith) (omega arith))
        (own 6 (q * 32 + 16) (omega arith) (omega arith))
        (own 7 (q * 32 + 20) (omega arith) (omega arith));
    others = λ m ne. cell_is s' m _ _ _ _ _ _ _ _
        (other m 0 (m * 32) (omega arith) (omega arith) (λ a b. ne a))
        (other m 1 (m * 32 + 2) (omega arith) (omega arith) (λ a b. ne a))
        (other m 2 (m * 32 + 4) (omega arith) (omega arith) (λ a b. ne a))
        (other m 3 (m * 32 + 6) (omega arith) (omega arith) (λ a b. ne a))
        (other m 4 (m * 32 + 8) (omega arith) (omega arith) (λ a b. ne a))
        (other m 5 (m * 32 + 12) (omega arith) (omega arith) (λ a b. ne a))
        (other m 6 (m * 32 + 16) (omega arith) (omega arith) (λ a b. ne a))
        (other m 7 (m * 32 + 20) (omega arith) (omega arith) (λ a b. ne a));
  }

-- One field

module _ (s s' : List ℕ) (q v : ℕ) where
  commanded : s' ≡ put_at 2 s (q * 32) v → q * 32 + 32 ≤ length s → v < 65536 → Set s s' q (with_type v (argument_in s q) (cell s q))
  unfolding when◌then◌else◌
  commanded e h f = field_set s s' q 0 v (q * 32) e (omega arith) h (omega arith) f

  pub set_next : s' ≡ put_at 2 s (q * 32 + 4) v → q * 32 + 32 ≤ length s → v < 65536 → Set s s' q (with_next v (cell s q))
  unfolding when◌then◌else◌
  set_next e h f = field_set s s' q 2 v (q * 32 + 4) e (omega arith) h (omega arith) f

  pub set_child : s' ≡ put_at 2 s (q * 32 + 6) v → q * 32 + 32 ≤ length s → v < 65536 → Set s s' q (with_child v (cell s q))
  unfolding when◌then◌else◌
  set_child e h f = field_set s s' q 3 v (q * 32 + 6) e (omega arith) h (omega arith) f

  pub set_count : s' ≡ put s (q * 32 + 8) v → q * 32 + 32 ≤ length s → v < 4294967296 → Set s s' q (with_count v (cell s q))
  unfolding when◌then◌else◌
  set_count e h f = field_set s s' q 4 v (q * 32 + 8) e (omega arith) h (omega arith) f

  pub set_argument : s' ≡ put s (q * 32 + 16) v → q * 32 + 32 ≤ length s → v < 4294967296 → Set s s' q (with_argument v (cell s q))
  unfolding when◌then◌else◌
  set_argument e h f = field_set s s' q 6 v (q * 32 + 16) e (omega arith) h (omega arith) f

  pub set_offset : s' ≡ put s (q * 32 + 20) v → q * 32 + 32 ≤ length s → v < 4294967296 → Set s s' q (with_offset v (cell s q))
  unfolding when◌then◌else◌
  set_offset e h f = field_set s s' q 7 v (q * 32 + 20) e (omega arith) h (omega arith) f

-- Several fields

length_stored : (w : ℕ) (s s' : List ℕ) (i v : ℕ) → s' ≡ put_at w s i v → length s' ≡ length s
length_stored w s s' i v e = ap length e ∙ length_put w s i v

-- a record set twice, the second time in some parts
pub set_again : (s s₁ s₂ : List ℕ) (q : ℕ) (c : Cell) (g : Cell → Cell) → Set s s₁ q c → Set s₁ s₂ q (g (cell s₁ q)) → Set s s₂ q (g c)
set_again s s₁ s₂ q c g A B = record { here = B.here ∙ ap g A.here; others = λ i ne. B.others i ne ∙ A.others i ne }

sized : (s s₁ s₂ : List ℕ) (q f n : ℕ) → s₁ ≡ put_at 2 s (q * 32 + 2) f → s₂ ≡ put s₁ (q * 32 + 12) n → q * 32 + 32 ≤ length s → f < 65536 → n < 4294967296 → Set s s₂ q (with_size (size_from f n) (cell s q))
unfolding when◌then◌else◌
sized s s₁ s₂ q f n e₁ e₂ h ff fn =
    let l : length s₁ ≡ length s = length_stored 2 s s₁ (q * 32 + 2) f e₁ in
    let A : Set s s₁ q (with_size (size_from f (word s (q * 32 + 12))) (cell s q)) = field_set s s₁ q 1 f (q * 32 + 2) e₁ (omega arith) h (omega arith) ff in
    let B : Set s₁ s₂ q (with_size (size_from (number_at 2 s₁ (q * 32 + 2)) n) (cell s₁ q)) = field_set s₁ s₂ q 5 n (q * 32 + 12) e₂ (omega arith) (omega arith) (omega arith) fn in
    let flag : number_at 2 s₁ (q * 32 + 2) ≡ f = own s s₁ q 1 f (q * 32 + 2) e₁ (omega arith) h (omega arith) ff 1 (q * 32 + 2) (omega arith) (omega arith) in
    set_again s s₁ s₂ q (with_size (size_from f (word s (q * 32 + 12))) (cell s q)) (with_size (size_from f n)) A (rw flag at B)

pub set_dynamic : (s s₁ s₂ : List ℕ) (q : ℕ) (z : MaxSize) → z ≡ Dynamic → s₁ ≡ put_at 2 s (q * 32 + 2) 0 → s₂ ≡ put s₁ (q * 32 + 12) 0 → q * 32 + 32 ≤ length s → Set s s₂ q (with_size (size_of z) (cell s q))
set_dynamic s s₁ s₂ q z e e₁ e₂ h = rw e (sized s s₁ s₂ q 0 0 e₁ e₂ h (omega arith) (omega arith))

pub set_fixed : (s s₁ s₂ : List ℕ) (q : ℕ) (z : MaxSize) (n : ℕ) → z ≡ Fixed n → s₁ ≡ put_at 2 s (q * 32 + 2) 1 → s₂ ≡ put s₁ (q * 32 + 12) n → q * 32 + 32 ≤ length s → n < 4294967296 → Set s s₂ q (with_size (size_of z) (cell s q))
set_fixed s s₁ s₂ q z n e e₁ e₂ h f = rw e (sized s s₁ s₂ q 1 n e₁ e₂ h (omega arith) f)

pub set_type : (s s₁ s₂ : List ℕ) (q c t : ℕ) → s₁ ≡ put_at 2 s (q * 32) c → s₂ ≡ put s₁ (q * 32 + 16) t → q * 32 + 32 ≤ length s → c < 65536 → t < 4294967296 → Set s s₂ q (with_type c t (cell s q))
set_type s s₁ s₂ q c t e₁ e₂ h fc ft =
    let l : length s₁ ≡ length s = length_stored 2 s s₁ (q * 32) c e₁ in
    set_again s s₁ s₂ q (with_type c (argument_in s q) (cell s q)) (with_argument t) (commanded s s₁ q c e₁ h fc) (set_argument s₁ s₂ q t e₂ (omega arith) ft)

-- The spare words

spare : (s s' : List ℕ) (q : ℕ) → Set s s' q (cell s q) → (i : ℕ) → cell s' i ≡ cell s i
spare s s' q S i = elim (ℕ_discrete i q) [
  | yes e ↦ rw e S.here
  | no ne ↦ S.others i ne
]

pub marked : (s s₁ s₂ : List ℕ) (q t p : ℕ) → s₁ ≡ put s (q * 32 + 24) t → s₂ ≡ put s₁ (q * 32 + 28) p → q * 32 + 32 ≤ length s → t < 4294967296 → p < 4294967296 → Marked s s₂ q t p
unfolding when◌then◌else◌
marked s s₁ s₂ q t p e₁ e₂ h ft fp =
    let l : length s₁ ≡ length s = length_stored 4 s s₁ (q * 32 + 24) t e₁ in
    let h₁ : q * 32 + 32 ≤ length s₁ = omega arith in
    let A : Set s s₁ q (cell s q) = field_set s s₁ q 8 t (q * 32 + 24) e₁ (omega arith) h (omega arith) ft in
    let B : Set s₁ s₂ q (cell s₁ q) = field_set s₁ s₂ q 9 p (q * 32 + 28) e₂ (omega arith) h₁ (omega arith) fp in
    record {
      same = λ i. spare s₁ s₂ q B i ∙ spare s s₁ q A i;
      tag = other s₁ s₂ q 9 p (q * 32 + 28) e₂ (omega arith) h₁ (omega arith) fp q 8 (q * 32 + 24) (omega arith) (omega arith) (λ a b. omega arith)
          ∙ own s s₁ q 8 t (q * 32 + 24) e₁ (omega arith) h (omega arith) ft 8 (q * 32 + 24) (omega arith) (omega arith);
      past = own s₁ s₂ q 9 p (q * 32 + 28) e₂ (omega arith) h₁ (omega arith) fp 9 (q * 32 + 28) (omega arith) (omega arith);
      tags = λ i ne. other s₁ s₂ q 9 p (q * 32 + 28) e₂ (omega arith) h₁ (omega arith) fp i 8 (i * 32 + 24) (omega arith) (omega arith) (λ a b. ne a)
          ∙ other s s₁ q 8 t (q * 32 + 24) e₁ (omega arith) h (omega arith) ft i 8 (i * 32 + 24) (omega arith) (omega arith) (λ a b. ne a);
      pasts = λ i ne. other s₁ s₂ q 9 p (q * 32 + 28) e₂ (omega arith) h₁ (omega arith) fp i 9 (i * 32 + 28) (omega arith) (omega arith) (λ a b. ne a)
          ∙ other s s₁ q 8 t (q * 32 + 24) e₁ (omega arith) h (omega arith) ft i 9 (i * 32 + 28) (omega arith) (omega arith) (λ a b. ne a);
    }
