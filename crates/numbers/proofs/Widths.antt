-- In every row of the table of commands, the argument and the number of the size have a number's width, and past it stands a row of
-- width 0; and a node's own part is as long as its command says.
-- Assumes nothing.
use Prim.Native.Nat.{ℕ, zero, suc, ◌-◌, ◌%◌, ◌^◌, ◌<◌, ◌≤◌}
use mathlib.Core.Path.{◌≡◌, refl, ap}
use mathlib.Core.List.{List, [], ◌∷◌}
use native.Mathlib.Omega.{arith}
use lib.ListN.{get_or, length, length-append}
use Rattle.definitions.specs.Usage.{Size, fixed, dynamic, In32, Usage}
use Rattle.definitions.specs.Command.{Command, no_command, commands, command_at, Head, head_of, size_width, argument_width}
use Rattle.definitions.specs.Stream.{bytes, write_size, write_head}
use Rattle.definitions.proofs.Numbers.{bytes_length}
use Rattle.definitions.proofs.Rounds.{five}
use Rattle.qptr.specs.declared.Kind.{Kind}
use Rattle.qptr.specs.Values.{command_of}
use Rattle.qptr.proofs.Nodes.{command_small, head_small}
use Rattle.numbers.specs.Words.{Width}
use Rattle.numbers.specs.Widths.{SizeWidth, own_width}

module _ (column : Command → ℕ) (past : Width (column no_command)) where
  abbrev AllWide : List Command → Type 0
  AllWide [] = Unit {0}
  AllWide (r ∷ rs) = (column r % 2 ≡ 0) × (column r ≤ 4) × AllWide rs

  row_width : (rs : List Command) (c : ℕ) → AllWide rs → Width (column (get_or rs c no_command))
  row_width [] c h = past
  row_width (r ∷ rs) zero h = record { even = h.0; small = h.1 }
  row_width (r ∷ rs) (suc c) h = row_width rs c h.2

pub no_bytes : Width 0
no_bytes = record { even = refl; small = omega arith }

pub four_bytes : Width 4
four_bytes = record { even = refl; small = omega arith }

pub argument_width_lem : (c : ℕ) → Width (argument_width c)
unfolding command_at
argument_width_lem c = row_width (λ r. r.argument) no_bytes commands c (omega arith)

-- behind the flag
pub size_width_lem : (c : ℕ) → Width (size_width c - 1)
unfolding command_at
size_width_lem c = row_width (λ r. r.size - 1) no_bytes commands c (omega arith)

-- written, a size and a node's own part are as long as their widths say

pub size_length : (w : ℕ) (z : Size) → length (write_size w z) ≡ w
size_length zero z = refl
size_length (suc w) (fixed n) = ap suc (bytes_length w n)
size_length (suc w) dynamic = ap suc (bytes_length w 0)

pub head_length : (h : Head) → length (write_head h) ≡ own_width h.command
head_length h =
    let v = size_width h.command in
    let w = argument_width h.command in
    omega (arith, length-append (write_size v h.size) (bytes w h.argument), size_length v h.size, bytes_length w h.argument)

-- a node of any kind has a size, whose number is within its bytes

pub kind_size_width : (k : Kind) → SizeWidth (size_width (command_of k))
kind_size_width k = record { some = omega (arith, five (command_of k) (command_small k)); number = size_width_lem (command_of k) }

pub node_size_width : (u : Usage) → SizeWidth (size_width (head_of u).command)
node_size_width u = let c = (head_of u).command in record { some = omega (arith, five c (head_small u)); number = size_width_lem c }

pub size_fits : (u : Usage) → In32 (head_of u).size → (n : ℕ) → (head_of u).size ≡ fixed n → n < 256 ^ (size_width (head_of u).command - 1)
size_fits u h n e =
    let low : In32 (fixed n) = rw e at h in
    rw (five (head_of u).command (head_small u)) (omega arith)

pub own_small : (u : Usage) → own_width (head_of u).command ≤ 10
own_small u = let c = (head_of u).command in omega (arith, (node_size_width u).number.small, (argument_width_lem c).small)
