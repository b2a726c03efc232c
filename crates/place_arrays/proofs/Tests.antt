-- The code's tests are rule 5's: each reads what the rule reads, and a difference that does not wrap compares as the sum does.
-- Assumes nothing.
use Rattle.std.proofs.Common.{◌≡◌, ℕ, ◌%◌, Bool, true, false, List, sym, ap, ◌∙◌}
use Rattle.definitions.specs.Place.{fits_stride}
use Rattle.qptr.specs.Values.{size_of}
use Rattle.qptr.specs.declared.MaxSize.{MaxSize}
use Rattle.records.specs.Records.{size_in, argument_in}
use Rattle.place_arrays.specs.Arrays.{HasStride, Fits, Longer, Meets}
use Rattle.place_arrays.specs.declared.Meeting.TheVariants.{Inside, Elements, Apart}

-- what b does, by the tests: t says whether it fits, and h whether it is an array of a's stride
module _ (s : List ℕ) (a d b stride : ℕ) (own : stride ≡ argument_in s a) (zb : MaxSize) (its : size_of zb ≡ size_in s b)
    (t : Bool) (test : t ≡ fits_stride (d % stride) (size_of zb) stride) where
  fits_is : (x : Bool) → t ≡ x → Fits s a d b x
  fits_is x e = rw (← own, ← its) (sym test ∙ e)

  pub meets_inside : t ≡ true → Meets s a d b (Inside (d % stride))
  unfolding Meets
  meets_inside e = (ap (λ (n : ℕ). d % n) own, fits_is true e)

  longer_is : t ≡ false → (h x : Bool) → HasStride s b (d % stride) stride h → h ≡ x → Longer s a d b x
  longer_is e h x H ex = record { longer = fits_is false e; strides = rw (own, ex) at H }

  pub meets_elements : t ≡ false → (h : Bool) → HasStride s b (d % stride) stride h → h ≡ true → Meets s a d b Elements
  unfolding Meets
  meets_elements e h H found = longer_is e h true H found

  pub meets_apart : t ≡ false → (h : Bool) → HasStride s b (d % stride) stride h → h ≡ false → Meets s a d b Apart
  unfolding Meets
  meets_apart e h H other = longer_is e h false H other
