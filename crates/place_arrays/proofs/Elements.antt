-- Rule 5 by its tests: the element's own placing or merge under the array, or the conflict.
-- Assumes nothing.
use Rattle.std.proofs.Common.{◌≡◌, ℕ, zero, suc, ◌+◌, ◌%◌, true, false, [], refl, arith, eq-eqb, ne_eqb}
use Rattle.std.proofs.Math.Option.{none as nothing}
use Rattle.definitions.specs.If.{when◌then◌else◌}
use Rattle.definitions.specs.Usage.{Size, Usage, unused, leaf, map, array, size}
use Rattle.definitions.specs.Command.{head_of}
use Rattle.definitions.specs.Table.{Setting}
use Rattle.definitions.specs.Place.{Result, refused, done, under, after, stride_conflict, fits_stride, element_of, place_in_element, place_in_array, place}
use Rattle.definitions.proofs.PlaceFuel.{merge_mem_is}
use Rattle.place_states.specs.Continuation.{element, finish, resume, act}
use Rattle.place_arrays.specs.Arrays.{element_pairing}

no_element : (r stride : ℕ) (b : Usage) → (r ≡ 0 → (head_of b).command ≡ 4 → (head_of b).argument ≡ stride → ⊥) → element_of r stride b ≡ nothing
unfolding when◌then◌else◌
no_element (suc r) stride b not = refl
no_element zero stride (unused z) not = refl
no_element zero stride (leaf z k t) not = refl
no_element zero stride (map z es) not = refl
no_element zero stride (array z n e) not = rw (ne_eqb n stride (not refl refl))

module _ (st : Setting) where
  act_element : (e : Usage) (r : ℕ) (b : Usage) → act st (element_pairing r) r e b ≡ place_in_element st (place st) e r b
  unfolding act
  act_element e zero b = merge_mem_is st e b
  act_element e (suc r) b = refl

  module _ (z : Size) (n : ℕ) (e : Usage) (d : ℕ) (b : Usage) where
    pub array_fits : fits_stride (d % n) (size b) n ≡ true
        → place_in_array st (place st) z n e d b ≡ under (array z n) (act st (element_pairing (d % n)) (d % n) e b)
    unfolding when◌then◌else◌
    array_fits fits = rw (fits, act_element e (d % n) b)

    pub array_conflict : fits_stride (d % n) (size b) n ≡ false → (d % n ≡ 0 → (head_of b).command ≡ 4 → (head_of b).argument ≡ n → ⊥)
        → place_in_array st (place st) z n e d b ≡ done (array z n e) (stride_conflict n) 0
    unfolding when◌then◌else◌
    array_conflict fits not = rw (fits, no_element (d % n) n b not)

  pub array_merges : (z : Size) (n : ℕ) (e : Usage) (d : ℕ) (y : Size) (m : ℕ) (f : Usage) → fits_stride (d % n) y n ≡ false → d % n ≡ 0 → m ≡ n
      → place_in_array st (place st) z n e d (array y m f) ≡ under (array z n) (act st (element_pairing 0) 0 e f)
  unfolding when◌then◌else◌
  array_merges z n e d y m f fits at-start equal = rw (fits, at-start, eq-eqb m n equal, act_element e 0 f)

  pub resume_element : (z : Size) (n o : ℕ) (r : Result Usage) → resume st (element z n) o [] 0 r ≡ after [] 1 (under (array z n) r)
  unfolding resume finish
  resume_element z n o (refused k) = refl
  resume_element z n o (done u w p) = let e : 0 + p ≡ p = omega arith in rw e
