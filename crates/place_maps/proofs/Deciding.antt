-- How an entry and b are joined is read off the numbers of where they start and end: the order of places is that of their numbers.
-- Assumes nothing.
use Prim.Native.Nat.{ℕ, ◌<◌, ◌≤◌}
use mathlib.Core.List.{List}
use native.Mathlib.Omega.{arith}
use borrow.Author.Tests.{lt-ltb, le-ltb, eq-eqb, ne_eqb}
use Rattle.definitions.specs.If.{when◌then◌else◌}
use Rattle.definitions.specs.Place.{ends}
use Rattle.definitions.proofs.PlaceFuel.{merge_mem_is}
use Rattle.records.specs.Records.{size_in}
use Rattle.place_states.specs.Continuation.{act}
use Rattle.place_states.specs.declared.Pairing.TheVariants.{Place, Merge}
use Rattle.place_search.specs.Numbers.{Denotes}
use Rattle.place_search.proofs.Denoting.{marks_le, marks_lt}
use Rattle.place_maps.specs.Joining.{apart, into_entry, into_b, Joint}

module _ {s : List ℕ} {l x o d y z : ℕ} (M : Denotes y (ends o (size_in s l))) (N : Denotes z (ends d (size_in s x))) where
  pub straddles_below : o < d → y < z → Joint s l x o d (apart o d)
  unfolding when◌then◌else◌ apart
  straddles_below lt less = record { comes = λ st u b w p eu eb. rw (ne_eqb o d (omega arith), lt-ltb o d lt, eu, eb, marks_lt (ends d (size_in s x)) (ends o (size_in s l)) N M less) }

  pub straddles_above : d < o → z < y → Joint s l x o d (apart o d)
  unfolding when◌then◌else◌ apart
  straddles_above lt less = record { comes = λ st u b w p eu eb. rw (ne_eqb o d (omega arith), le-ltb o d (omega arith), eu, eb, marks_lt (ends o (size_in s l)) (ends d (size_in s x)) M N less) }

  pub entry_takes : o < d → z ≤ y → Joint s l x o d (into_entry o d)
  unfolding when◌then◌else◌ into_entry
  entry_takes lt le = record { comes = λ st u b w p eu eb. rw (ne_eqb o d (omega arith), lt-ltb o d lt, eu, eb, marks_le (ends d (size_in s x)) (ends o (size_in s l)) N M le) }

  pub b_takes : d < o → y ≤ z → Joint s l x o d (into_b Place o d)
  unfolding when◌then◌else◌ into_b act
  b_takes lt le = record { comes = λ st u b w p eu eb. rw (ne_eqb o d (omega arith), le-ltb o d (omega arith), eu, eb, marks_le (ends o (size_in s l)) (ends d (size_in s x)) M N le) }

pub b_merges : (s : List ℕ) (l x o d : ℕ) → o ≤ d → d ≤ o → Joint s l x o d (into_b Merge o d)
unfolding when◌then◌else◌ into_b act
b_merges s l x o d le ge = record { comes = λ st u b w p eu eb. rw (eq-eqb o d (omega arith), merge_mem_is st b u) }
