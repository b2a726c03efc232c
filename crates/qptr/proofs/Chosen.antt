-- The constant of the choices is the definitions'.
-- Assumes nothing.
use mathlib.Core.Path.{◌≡◌, refl}
use Rattle.definitions.specs.Requests.Choices.{rust}
use Rattle.qptr.specs.Choices.{choices_in}
use Rattle.qptr.specs.declared.choices.TheConstants.Choices.{RUST}

pub rust_is : choices_in RUST ≡ rust
unfolding choices_in
rust_is = refl
