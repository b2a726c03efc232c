-- A node's own bytes, stored one part behind the other.
-- Assumes nothing.
use Prim.Native.Nat.{ℕ, ◌+◌, ◌≤◌}
use mathlib.Core.Path.{◌≡◌}
use mathlib.Core.List.{List, [], ◌∷◌}
use native.Mathlib.Omega.{arith}
use lib.ListN.{length}
use Rattle.definitions.specs.Usage.{Size}
use Rattle.definitions.specs.Command.{Command, command_at, head_of}
use Rattle.definitions.specs.Stream.{bytes, write_size, write_head}
use Rattle.numbers.specs.Words.{Width}
use Rattle.qptr.specs.declared.Kind.{Kind}
use Rattle.qptr.specs.Values.{command_of, kind_of}
use Rattle.qptr.proofs.Usages.{head_size}
use Rattle.numbers.specs.Widths.{SizeWidth, own_width}
use Rattle.numbers.proofs.Widths.{argument_width_lem, kind_size_width, size_length}
use Rattle.records.specs.Records.{command_in, size_in}
use Rattle.record_links.proofs.Stands.{stands_root}
use Rattle.stream_write.specs.Nodes.{Put, Onto}
use Rattle.stream_write.specs.declared.Output.{Output}
use Rattle.stream_write.specs.Writing.{OwnFitting, ArgumentIs, OwnPut}
use Rattle.stream_write.proofs.Stores.{onto_as, onto_more}
use Rattle.stream_write.proofs.Roots.{command_of_root}

row_room : (k : Kind) (i : ℕ) {c n : ℕ} {row : Command} → c ≡ command_of k → row ≡ command_at c → i + own_width (command_of k) ≤ n → SizeWidth row.size × Width row.argument × (i + 1 + row.size + row.argument ≤ n)
row_room k i ck e room = rw (e, ck) (kind_size_width k, argument_width_lem (command_of k), omega (arith, room))

module _ (k : Kind) {c : ℕ} {row : Command} {o o₁ : Output} (ck : c ≡ command_of k) (e : row ≡ command_at c) (room : o.at + own_width (command_of k) ≤ length o.buffer.now) (A : Onto (Put (c ∷ [])) o o₁) where
  pub size_room : SizeWidth row.size × (o₁.at + row.size ≤ length o₁.buffer.now)
  size_room = let R = row_room k o.at ck e room in (R.0, omega (arith, R.2, A.is.behind, A.long))

  pub argument_room : (z : Size) {o₂ : Output} → Onto (Put (write_size row.size z)) o₁ o₂ → Width row.argument × (o₂.at + row.argument ≤ length o₂.buffer.now)
  argument_room z B =
      let R = row_room k o.at ck e room in
      (R.1, omega (arith, R.0.some, R.2, A.is.behind, A.long, B.is.behind, B.long, size_length row.size z))

pub head_stored : (k : Kind) (z : Size) (a : ℕ) {c : ℕ} {row : Command} {o o₁ o₂ o₃ : Output} → c ≡ command_of k → row ≡ command_at c
    → Onto (Put (c ∷ [])) o o₁ → Onto (Put (write_size row.size z)) o₁ o₂ → Onto (Put (bytes row.argument a)) o₂ o₃
    → Onto (Put (write_head (record { command = command_of k; size = z; argument = a }))) o o₃
unfolding command_at
head_stored k z a ck e A B C = rw (← ck, ← e) (onto_more (onto_more A B) C)

pub own_room : (s : List ℕ) (q : ℕ) (out : List ℕ) (at : ℕ) (k : Kind) → OwnFitting s q out at → k ≡ kind_of (command_in s q) → at + own_width (command_of k) ≤ length out
own_room s q out at k F e =
    let P = F.standing in
    rw (command_of_root P.usage s q k P.rank P.lo P.hi e P.stands) F.room

pub own_stored : (s : List ℕ) (q : ℕ) (k : Kind) (z : Size) (a : ℕ) {o o' : Output} → Onto (Put (write_head (record { command = command_of k; size = z; argument = a }))) o o' → k ≡ kind_of (command_in s q)
    → z ≡ size_in s q → ArgumentIs s q a → Onto (OwnPut s q) o o'
own_stored s q k z a {o} {o'} H kind size-read argument = onto_as (λ (P : Put (write_head (record { command = command_of k; size = z; argument = a })) o.buffer.now o.at o'.buffer.now o'.at). record {
  of = λ u rank lo hi stands.
      let R = stands_root u s q rank lo hi stands in
      let same_command = command_of_root u s q k rank lo hi kind stands in
      let head : write_head (record { command = command_of k; size = z; argument = a }) ≡ write_head (head_of u) = cc (same_command, R.size, head_size u, argument.of u rank lo hi stands) in
      rw head at P;
}) H
