-- What the functions for rule 5 say.
use Rattle.std.specs.Prelude.{ℕ, zero, suc, ◌%◌, ◌≡◌, Bool, true, false, List}
use Rattle.definitions.specs.Place.{fits_stride}
use Rattle.records.specs.Records.{command_in, size_in, argument_in}
use Rattle.report.specs.declared.Report.{Report}
use Rattle.place_states.specs.States.{Moves}
use Rattle.place_states.specs.declared.Rule.TheVariants.{Element as ByElement}
use Rattle.place_states.specs.declared.State.{State}
use Rattle.place_states.specs.declared.TheConstants.State.{NONE}
use Rattle.place_states.specs.declared.Pairing.{Pairing}
use Rattle.place_states.specs.declared.Pairing.TheVariants.{Place, Merge}
use Rattle.place_states.specs.declared.Todo.TheVariants.{Pair}
use Rattle.place_arrays.specs.declared.Meeting.{Meeting}
use Rattle.place_arrays.specs.declared.Meeting.TheVariants.{Inside, Elements, Apart}

-- whether r is 0 and record q is an array of this stride
pub record HasStride (s : List ℕ) (q r stride : ℕ) (t : Bool) : Type 0 where
  pub holds : t ≡ true → (r ≡ 0) × (command_in s q ≡ 4) × (argument_in s q ≡ stride)
  pub fails : t ≡ false → r ≡ 0 → command_in s q ≡ 4 → argument_in s q ≡ stride → ⊥

-- rule 5's first test of b, by the stride of the array a
abbrev pub Fits : List ℕ → ℕ → ℕ → ℕ → Bool → Type 0
Fits s a d b t = fits_stride (d % argument_in s a) (size_in s b) (argument_in s a) ≡ t

-- b does not fit; t says whether it is an array of the same stride, and d at an element's start
pub record Longer (s : List ℕ) (a d b : ℕ) (t : Bool) : Type 0 where
  pub longer : Fits s a d b false
  pub strides : HasStride s b (d % argument_in s a) (argument_in s a) t

unfoldable pub Meets : List ℕ → ℕ → ℕ → ℕ → Meeting → Type 0
Meets s a d b (Inside r) = (r ≡ d % argument_in s a) × Fits s a d b true
Meets s a d b Elements = Longer s a d b true
Meets s a d b Apart = Longer s a d b false

-- at 0 the pair is merged
abbrev pub element_pairing : ℕ → Pairing
element_pairing zero = Merge
element_pairing (suc r) = Place

-- record x, and m that goes into it at r; the report began at `base`
abbrev pub element_state : ℕ → ℕ → ℕ → ℕ → State
element_state x m r base = record NONE { todo = Pair (element_pairing r); rule = ByElement; x = x; m = m; d = r; pairings = 1; base = base; mark = base }

-- rule 5's array stands around what its element has become; nothing is reported here
pub record Wrapped (s : List ℕ) (a : ℕ) (st : State) (s' : List ℕ) (st' : State) : Type 0 where
  pub moves : (rep : Report) → Moves s rep a st s' rep st'
