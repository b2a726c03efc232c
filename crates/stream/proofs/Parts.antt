-- An own part at a place of the bytes is read piece by piece, in the widths of its command's row, and is broken where a piece is. Its
-- command, its argument and its end do not hang on its size: that only says whether it is read.
-- Assumes nothing.
use Prim.Native.Nat.{ℕ, zero, suc, ◌+◌, ◌-◌, ◌^◌, ◌≤◌, ◌<◌}
use mathlib.Core.Path.{◌≡◌, refl, sym, ap, ◌∙◌}
use mathlib.Core.List.{List, [], ◌∷◌}
use native.Mathlib.Decide.{dec_lt, ℕ_discrete}
use native.Mathlib.Omega.{arith}
use borrow.Author.Tests.{lt-ltb, eq-eqb, ne_eqb}
use lib.ListN.{length, get_or, drop, length-drop}
use lib.Seq.{drop-length, get_or-drop}
use Rattle.definitions.specs.If.{when◌then◌else◌}
use Rattle.definitions.specs.Usage.{Size, dynamic}
use Rattle.definitions.specs.Command.{Head, command_at, size_width, argument_width}
use Rattle.definitions.specs.Stream.{broken, read, ◌then◌, number, read_size}
use Rattle.definitions.proofs.Choice.{either}
use Rattle.definitions.proofs.Numbers.{number_whence}
use Rattle.definitions.proofs.Written.{Bytes}
use Rattle.definitions.proofs.Reading.{Reads, stops, gives, reads_any, reads_map, reads_then, reads_is, then_agree}
use Rattle.qptr.specs.Values.{row_of, command_of, part_of, part_by}
use Rattle.qptr.specs.declared.Kind.{Kind}
use Rattle.qptr.specs.declared.Command.{Command}
use Rattle.qptr.specs.declared.Node.{Node}
use Rattle.qptr.proofs.Nodes.{part_is}
use Rattle.numbers.specs.Words.{number_at}
use Rattle.numbers.proofs.Numbers.{number_at_lem, number_short}
use Rattle.stream.specs.Head.{own, head, OutlineAt}
use Rattle.stream.specs.Walk.{entries_of}
use Rattle.stream.proofs.Places.{byte_at, size_short, size_end}
use Rattle.stream.proofs.Then.{then_broken}

pub head_none : (s : List ℕ) (at : ℕ) → at ≡ length s → head (drop at s) ≡ broken
unfolding head
head_none s at e = rw (e, drop-length)

own_high : (c : ℕ) (z : Size) (n : ℕ) (rest : List ℕ) → 0x04 < c → own c z n rest ≡ broken
unfolding when◌then◌else◌
own_high c z n rest high = rw (lt-ltb _ _ high)

own_told : (c : ℕ) (z : Size) (n : ℕ) (rest : List ℕ) → Reads (λ h r. (h.command ≡ c) × (h.argument ≡ n) × (r ≡ rest)) (own c z n rest)
own_told c z n rest =
    either (Reads _) _ stops
    (either (Reads _) _ (either (Reads _) _ stops (gives _ rest (refl, refl, refl))) (gives _ rest (refl, refl, refl)))

module _ (s : List ℕ) (at : ℕ) (some : at < length s) where
  abbrev c : ℕ
  c = get_or s at 0

  head_at : head (drop at s) ≡ read_size (size_width c) (drop (at + 1) s) then λ z bs. number (argument_width c) bs then λ n rest. own c z n rest
  unfolding head
  head_at = rw (byte_at s at some)

  pub head_high : 0x04 < c → head (drop at s) ≡ broken
  head_high high =
      rw head_at
      (then_broken (reads_any (read_size (size_width c) (drop (at + 1) s))) λ z bs _.
      then_broken (reads_any (number (argument_width c) bs)) λ n rest _.
      own_high c z n rest high)

  module _ (row : Command) (is : row_of row ≡ command_at c) where
    head_by : head (drop at s) ≡ read_size row.size (drop (at + 1) s) then λ z bs. number row.argument bs then λ n rest. own c z n rest
    head_by =
        let size : row.size ≡ size_width c = ap (λ r. r.size) is in
        let argument : row.argument ≡ argument_width c = ap (λ r. r.argument) is in
        rw (head_at, ← size, ← argument)

    pub head_cut : length s - at < 1 + row.size + row.argument → head (drop at s) ≡ broken
    head_cut short =
        rw head_by
        (elim (dec_lt (length s) (at + 1 + row.size)) [
          | yes cut ↦ rw (size_short row.size (drop (at + 1) s) (rw length-drop (omega arith)))
          | no long ↦
              then_broken (size_end row.size s (at + 1) (omega arith)) λ z bs end.
              rw (end, number_short row.argument (drop (at + 1 + row.size) s) (rw length-drop (omega arith)))
        ])

    module _ (long : 1 + row.size + row.argument ≤ length s - at) where
      abbrev argument : ℕ
      argument = number_at row.argument s (at + (1 + row.size))

      abbrev rest : List ℕ
      rest = drop (at + (1 + row.size + row.argument)) s

      argument_here : number row.argument (drop (at + 1 + row.size) s) ≡ read argument rest
      argument_here =
          let from : at + 1 + row.size ≡ at + (1 + row.size) = omega arith in
          rw from (number_at_lem row.argument s (at + (1 + row.size)) (at + (1 + row.size + row.argument)) (omega arith) (omega arith))

      -- an Unused has no argument
      bare : c ≡ 0x00 → argument ≡ 0
      unfolding command_at number_at
      bare e = let none : row.argument ≡ 0 = ap (λ r. r.argument) is ∙ ap argument_width e in ap (λ w. number_at w s (at + (1 + row.size))) none

      pub outline_at : (kind : Kind) → c ≡ command_of kind → (node : Node) → part_of node ≡ part_by kind dynamic argument
          → OutlineAt s at node (at + (1 + row.size + row.argument))
      outline_at kind known node made =
          let part = made ∙ part_is kind dynamic argument (λ is. bare (known ∙ ap command_of is)) in
          let command : command_of node.kind ≡ c = ap (λ (h : Head). h.command) part ∙ sym known in
          let argued : node.argument ≡ argument = ap (λ (h : Head). h.argument) part in
          let size : size_width c ≡ row.size = sym (ap (λ r. r.size) is) in
          record {
            reads =
                rw (command, argued, size)
                (head_by ∙ then_agree (size_end row.size s (at + 1) (omega arith)) λ z bs end. rw (end, argument_here));
            taken = rw (command, size) (omega arith);
            within = omega arith;
          }

-- where an own part is read, its command, its argument and its end are those of its outline
pub outline_same : {s : List ℕ} {at : ℕ} {node : Node} {end : ℕ} → OutlineAt s at node end → (h : Head) (rest : List ℕ) → head (drop at s) ≡ read h rest
    → (h.command ≡ command_of node.kind) × (h.argument ≡ node.argument) × (rest ≡ drop end s)
outline_same {s} {at} {node} {end} part h _ e =
    reads_is
    (reads_then (reads_any (read_size (size_width (command_of node.kind)) (drop (at + 1) s))) λ z left _. own_told (command_of node.kind) z node.argument (drop end s))
    (sym part.reads ∙ e)

-- A map has fewer than 65,536 entries, since their count has two bytes.

size_left : (w : ℕ) (bs : List ℕ) → Bytes bs → Reads (λ z rest. Bytes rest) (read_size w bs)
size_left zero bs h = stops
size_left (suc w) [] h = stops
size_left (suc w) (flag ∷ bs) h =
    reads_then (number_whence w bs (λ i. h (suc i))) λ n rest v.
    either (Reads _) _ (gives _ _ v.left) (either (Reads _) _ (either (Reads _) _ (gives _ _ v.left) stops) stops)

entries_few : (h : Head) {c n : ℕ} → h.command ≡ c → h.argument ≡ n → n < 256 ^ argument_width c → entries_of h < 65536
unfolding entries_of when◌then◌else◌ command_at
entries_few h {c} command argument few =
    elim (ℕ_discrete h.command 0x03) [
      | yes is ↦
          let map : c ≡ 0x03 = sym command ∙ is in
          rw (eq-eqb h.command 0x03 is) (omega (arith, rw map at few))
      | no not ↦ rw (ne_eqb h.command 0x03 not) (omega arith)
    ]

head_few : (bs : List ℕ) → Bytes bs → Reads (λ h rest. entries_of h < 65536) (head bs)
unfolding head
head_few [] bytes = stops
head_few (c ∷ bs) bytes =
    reads_then (size_left (size_width c) bs (λ i. bytes (suc i))) λ z bs₁ left.
    reads_then (number_whence (argument_width c) bs₁ left) λ n rest v.
    reads_map (own_told c z n rest) λ h r told. entries_few h told.0 told.1 v.fits

pub count_few : (s : List ℕ) (at : ℕ) {h : Head} {rest : List ℕ} → Bytes s → head (drop at s) ≡ read h rest → entries_of h < 65536
count_few s at bytes e = reads_is (head_few (drop at s) (λ i. rw get_or-drop (bytes (at + i)))) e
