-- The numbers of the refusals by size.
-- Assumes nothing.
use Rattle.std.specs.Prelude.{ℕ}
use Rattle.place_states.specs.declared.SizeRefusal.{SizeRefusal}
use Rattle.place_states.specs.declared.SizeRefusal.TheVariants.{Outgrown, Past32}

abbrev pub number_of : SizeRefusal → ℕ
number_of Outgrown = 8
number_of Past32 = 9
