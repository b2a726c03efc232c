-- The choices that the code's values stand for.
-- Assumes nothing.
use Rattle.std.specs.Prelude.{Bool, true, false}
use Rattle.definitions.specs.Requests.Choices.{Choices as Chosen}
use Rattle.qptr.specs.declared.choices.Choices.{Choices}
use Rattle.qptr.specs.declared.choices.Lookup.{Lookup}
use Rattle.qptr.specs.declared.choices.Lookup.TheVariants.{Lenient, Strict}
use Rattle.qptr.specs.declared.choices.Ties.{Ties}
use Rattle.qptr.specs.declared.choices.Ties.TheVariants.{First, Second}

abbrev pub to_first : Ties → Bool
to_first Second = false
to_first First = true

abbrev pub strict_lookup_in : Lookup → Bool
strict_lookup_in Lenient = false
strict_lookup_in Strict = true

unfoldable pub choices_in : Choices → Chosen
choices_in c = record { ties_to_first = to_first c.ties; strict_lookup = strict_lookup_in c.lookup }
