-- Who receives, as document 01 has it.
-- Assumes nothing.
use Rattle.std.specs.Prelude.{Bool, true, false, Option, Some, None}
use Rattle.std.proofs.Math.Option.{Option as Maybe, none as nothing, some}
use Rattle.definitions.specs.Place.{Result, refused, done}
use Rattle.calls.specs.declared.receiver_rule.Received.{Received}
use Rattle.calls.specs.declared.receiver_rule.Received.TheVariants.{First, Second}

-- does the first stream receive? Nobody is an empty part, where 3, 4 or 7 would be met
abbrev pub first_of : Option Received → Maybe Bool
first_of None = nothing
first_of (Some First) = some true
first_of (Some Second) = some false

-- the definition's answer, where it is not refused
abbrev pub answered : Result Bool → Maybe Bool
answered (refused k) = nothing
answered (done a w p) = some a
