-- What this crate's values stand for: sizes, kinds, rows of the command table, and nodes without their children.
-- Assumes nothing.
use Rattle.std.specs.Prelude.{ℕ, zero, suc, Bool, ◌≡◌, ◌<◌, ltb, eqb, Result, MatchResult}
use Rattle.definitions.specs.If.{when◌then◌else◌}
use Rattle.definitions.specs.Usage.{Size, fixed, dynamic, Usage, UNUSED, unused}
use Rattle.definitions.specs.Command.{Command as Row, Head, head_of}
use Rattle.definitions.specs.Place.{first_receives}
use Rattle.qptr.specs.Choices.{choices_in}
use Rattle.qptr.specs.declared.choices.Choices.{Choices}
use Rattle.qptr.specs.declared.MaxSize.{MaxSize}
use Rattle.qptr.specs.declared.MaxSize.TheVariants.{Fixed, Dynamic}
use Rattle.qptr.specs.declared.Kind.{Kind}
use Rattle.qptr.specs.declared.Kind.TheVariants.{Unused, StrictlyTyped, DirectAccess, OffsetBase, DynOffsetBase}
use Rattle.qptr.specs.declared.NoKind.{NoKind}
use Rattle.qptr.specs.declared.Strictness.{Strictness}
use Rattle.qptr.specs.declared.Strictness.TheVariants.{Any, Array, Exact}
use Rattle.qptr.specs.declared.Command.{Command}
use Rattle.qptr.specs.declared.Node.{Node}

abbrev pub size_of : MaxSize → Size
size_of (Fixed n) = fixed n
size_of Dynamic = dynamic

abbrev pub command_of : Kind → ℕ
command_of Unused = 0x00
command_of StrictlyTyped = 0x01
command_of DirectAccess = 0x02
command_of OffsetBase = 0x03
command_of DynOffsetBase = 0x04

-- the kind with this command; where no node has it, the placeholder's
abbrev pub kind_of : ℕ → Kind
kind_of zero = Unused
kind_of (suc zero) = StrictlyTyped
kind_of (suc (suc zero)) = DirectAccess
kind_of (suc (suc (suc zero))) = OffsetBase
kind_of (suc (suc (suc (suc zero)))) = DynOffsetBase
kind_of (suc (suc (suc (suc (suc n))))) = Unused

-- the result is the kind with this command, or an error where no node has it
abbrev pub NamesKind : ℕ → Result Kind NoKind → Type 0
NamesKind c r = MatchResult r (λ kind. command_of kind ≡ c) (λ e. 0x04 < c)

abbrev pub strictness_of : Strictness → ℕ
strictness_of Any = 0
strictness_of Array = 1
strictness_of Exact = 2

abbrev pub row_of : Command → Row
row_of c = record { size = c.size; argument = c.argument; strictness = strictness_of c.strictness }

-- a node, which has no children, as an own part
abbrev pub part_of : Node → Head
part_of n = record { command = command_of n.kind; size = size_of n.size; argument = n.argument }

-- the own part of this kind, with this size and argument: an Unused has no argument
abbrev pub part_by : Kind → Size → ℕ → Head
part_by Unused z n = head_of (unused z)
part_by StrictlyTyped z n = record { command = 0x01; size = z; argument = n }
part_by DirectAccess z n = record { command = 0x02; size = z; argument = n }
part_by OffsetBase z n = record { command = 0x03; size = z; argument = n }
part_by DynOffsetBase z n = record { command = 0x04; size = z; argument = n }

-- the own part with this command, size and argument: where no node has the command stands the placeholder
abbrev pub part_by_command : ℕ → Size → ℕ → Head
part_by_command c z n =
    when eqb c 0x00 then head_of (unused z)
    else when ltb 0x04 c then head_of UNUSED
    else record { command = c; size = z; argument = n }

-- the usage's own part is this node
abbrev pub OwnPart : Node → Usage → Type 0
OwnPart n u = part_of n ≡ head_of u

-- r says whether the first receives, with these choices, of any two usages whose own parts are a and b
pub record Receives (ch : Choices) (a b : Node) (r : Bool) : Type 0 where
  pub of : (u v : Usage) → OwnPart a u → OwnPart b v → r ≡ first_receives (choices_in ch) u v
