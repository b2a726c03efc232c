-- A node's own bytes, read part by part: each part stands behind the last, and is what is read there.
-- Assumes nothing.
use Prim.Native.Nat.{ℕ, ◌+◌, ◌≤◌}
use mathlib.Core.Path.{◌≡◌, refl, ap, ◌∙◌}
use mathlib.Core.List.{List, [], ◌∷◌, ◌++◌, append_assoc}
use native.Mathlib.Omega.{arith}
use lib.ListN.{length, get_or, drop}
use Rattle.definitions.specs.Usage.{Size, Usage}
use Rattle.definitions.specs.Command.{Command, command_at, head_of, size_width, argument_width}
use Rattle.definitions.specs.Stream.{bytes, write_size, write_head}
use Rattle.definitions.proofs.Numbers.{bytes_length}
use Rattle.numbers.specs.Words.{Width, number_at}
use Rattle.numbers.proofs.Numbers.{number_is}
use Rattle.numbers.proofs.Widths.{argument_width_lem, size_length, node_size_width, size_fits}
use Rattle.records.specs.Records.{alone, Set}
use Rattle.numbers.specs.Widths.{SizeWidth, own_width}
use Rattle.stream_load.specs.Nodes.{size_at, own, OwnAt}
use Rattle.stream_load.specs.Loading.{OwnReady, OwnLoaded}
use Rattle.qptr.proofs.Usages.{head_size}
use Rattle.stream_load.proofs.Numbers.{size_is}
use Rattle.numbers.proofs.Places.{first_at, past, inside}
use Rattle.stream_load.proofs.Widths.{own_length}

past_at : (s : List ℕ) (i j : ℕ) (xs ys : List ℕ) → i + length xs ≡ j → drop i s ≡ xs ++ ys → drop j s ≡ ys
past_at s i j xs ys e d = rw (← e) (past s i xs ys d)

record Parts (front o : ℕ) (u : Usage) (s : List ℕ) (at : ℕ) (rest : List ℕ) : Type 0 where
  offset : drop at s ≡ bytes front o ++ (write_head (head_of u) ++ rest)
  command : get_or s (at + front) 0 ≡ (head_of u).command
  size : drop (at + front + 1) s ≡ write_size (size_width (head_of u).command) (head_of u).size ++ (bytes (argument_width (head_of u).command) (head_of u).argument ++ rest)
  argument : drop (at + front + 1 + size_width (head_of u).command) s ≡ bytes (argument_width (head_of u).command) (head_of u).argument ++ rest
  behind : drop (at + front + 1 + size_width (head_of u).command + argument_width (head_of u).command) s ≡ rest
  within : at + front + own_width (head_of u).command ≤ length s

parts : {front o : ℕ} {u : Usage} {s : List ℕ} {at : ℕ} {rest : List ℕ} → OwnAt front o u s at rest → Parts front o u s at rest
parts {front} {o} {u} {s} {at} {rest} A =
    let h = head_of u in
    let v : ℕ = size_width h.command in
    let w : ℕ = argument_width h.command in
    let tail : List ℕ = bytes w h.argument in
    let t₀ : drop at s ≡ bytes front o ++ (write_head h ++ rest) = A.text ∙ append_assoc (bytes front o) (write_head h) rest in
    let t₁ : drop (at + front) s ≡ write_head h ++ rest = past_at s at (at + front) (bytes front o) (write_head h ++ rest) (omega (arith, bytes_length front o)) t₀ in
    let t₂ : drop (at + front + 1) s ≡ write_size v h.size ++ (tail ++ rest) =
    past_at s (at + front) (at + front + 1) (h.command ∷ []) ((write_size v h.size ++ tail) ++ rest) refl t₁ ∙ append_assoc (write_size v h.size) tail rest in
    let t₃ : drop (at + front + 1 + v) s ≡ tail ++ rest =
    past_at s (at + front + 1) (at + front + 1 + v) (write_size v h.size) (tail ++ rest) (omega (arith, size_length v h.size)) t₂ in
    record {
      offset = t₀;
      command = first_at s (at + front) (write_head h ++ rest) t₁;
      size = t₂;
      argument = t₃;
      behind = past_at s (at + front + 1 + v) (at + front + 1 + v + w) tail rest (omega (arith, bytes_length w h.argument)) t₃;
      within = omega (arith, inside s at (own front o u) rest A.text (omega (arith, own_length front o u)), own_length front o u);
    }

module _ {s : List ℕ} {at front : ℕ} {work : List ℕ} {q : ℕ} (R : OwnReady s at front work q) where
  pub head_inside : at + front + 1 ≤ length s
  head_inside = omega (arith, (parts R.stands).within)

  module _ {row : Command} (e : row ≡ command_at (get_or s (at + front) 0)) where
    pub own_inside : SizeWidth row.size × Width row.argument × (at + front + 1 + row.size + row.argument ≤ length s)
    own_inside =
        let P = parts R.stands in
        let known : row ≡ command_at (head_of R.usage).command = e ∙ ap command_at P.command in
        rw known (node_size_width R.usage, argument_width_lem (head_of R.usage).command, omega (arith, P.within))

    pub own_loaded : {work' : List ℕ} {c o a : ℕ} {z : Size} → c ≡ get_or s (at + front) 0 → o ≡ number_at front s at → z ≡ size_at row.size s (at + front + 1)
        → a ≡ number_at row.argument s (at + front + 1 + row.size) → Set work work' q (alone c z a o)
        → OwnLoaded s at front work q work' (at + front + 1 + row.size + row.argument)
    own_loaded {work'} {c} {o} {a} {z} command offset size-read argument W = record {
      root = λ p u rest A.
          let P = parts A in
          let known : row ≡ command_at (head_of u).command = e ∙ ap command_at P.command in
          let size-is-read : size_at row.size s (at + front + 1) ≡ (head_of u).size =
          rw known (size_is _ s _ _ _ (node_size_width u).some (size_fits u A.size) P.size) in
          let argument-is-read : number_at row.argument s (at + front + 1 + row.size) ≡ (head_of u).argument =
          rw known (number_is _ s _ _ rest A.argument P.argument) in
          W.here ∙ cc (command ∙ P.command, size-read ∙ size-is-read ∙ head_size u, argument ∙ argument-is-read, offset ∙ number_is front s at p _ A.offset P.offset);
      behind = λ p u rest A.
          let P = parts A in
          let known : row ≡ command_at (head_of u).command = e ∙ ap command_at P.command in
          rw known P.behind;
      within = own_inside.2;
      others = W.others;
    }
