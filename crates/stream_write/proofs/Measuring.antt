-- The length of what is written: a node's own part has its width, and each text behind it adds its own length.
-- Assumes nothing.
use Prim.Native.Nat.{ℕ, suc, ◌+◌, ◌≤◌}
use mathlib.Core.Path.{◌≡◌, ap, sym, ◌∙◌}
use mathlib.Core.List.{List, ◌++◌}
use native.Mathlib.Omega.{arith}
use lib.ListN.{length, length-append}
use Rattle.definitions.specs.Usage.{Usage}
use Rattle.definitions.specs.Command.{head_of}
use Rattle.definitions.specs.Stream.{bytes, write_head, write_node, write_entries}
use Rattle.definitions.proofs.Numbers.{bytes_length}
use Rattle.qptr.specs.declared.Kind.{Kind}
use Rattle.qptr.specs.declared.Kind.TheVariants.{OffsetBase, DynOffsetBase}
use Rattle.qptr.specs.Values.{command_of, kind_of}
use Rattle.records.specs.Records.{command_in, next_in, child_in, offset_in}
use Rattle.record_links.specs.Standing.{Stands}
use Rattle.numbers.specs.Widths.{own_width}
use Rattle.stream_write.specs.Writing.{Readable, LengthIs}
use Rattle.numbers.proofs.Widths.{head_length}
use Rattle.stream_write.proofs.Roots.{command_of_root}
use Rattle.stream_write.proofs.Lengths.{written_bytes}
use Rattle.stream_write.proofs.Writing.{one_writes, element, below, Writing, writing_none, writing_done, writing_more, entry_readable, written_done, entry_fits}

-- a usage of fewer than 65,536 nodes
readable_short : (s : List ℕ) (q : ℕ) (P : Readable s q) → length (write_node P.usage) ≤ 917504
readable_short s q P = omega (arith, written_bytes P.usage, P.small)

own_length : (u : Usage) (s : List ℕ) (q : ℕ) (c : Kind) (n : ℕ) (rank : ℕ → ℕ) (lo hi : ℕ) → c ≡ kind_of (command_in s q) → n ≡ own_width (command_of c) → Stands u s q rank lo hi
    → n ≡ length (write_head (head_of u))
own_length u s q c n rank lo hi ec e h = e ∙ ap own_width (command_of_root u s q c rank lo hi ec h) ∙ sym (head_length (head_of u))

pub length_one : (s : List ℕ) (q : ℕ) (c : Kind) (n : ℕ) → c ≡ kind_of (command_in s q) → (c ≡ DynOffsetBase → ⊥) → (c ≡ OffsetBase → ⊥) → n ≡ own_width (command_of c) → LengthIs s q n
length_one s q c n ec n₄ n₃ e = record { of = λ u rank lo hi h. own_length u s q c n rank lo hi ec e h ∙ ap length (one_writes u s q c rank lo hi ec n₄ n₃ h) }

-- an array

module _ (s : List ℕ) (q : ℕ) (c : Kind) (x n m : ℕ) (ec : c ≡ kind_of (command_in s q)) (e₄ : c ≡ DynOffsetBase) (ex : x ≡ child_in s q) (e : n ≡ own_width (command_of c)) (L : LengthIs s x m) where
  pub length_array : LengthIs s q (n + m)
  length_array = record {
    of = λ u rank lo hi h.
        let E = element u s q c x rank lo hi ec e₄ ex h in
        omega (arith, own_length u s q c n rank lo hi ec e h, L.of E.node rank (suc (rank q)) hi E.stands, ap length E.writes, length-append (write_head (head_of u)) (write_node E.node));
  }

  pub array_short : Readable s q → n + m ≤ 917504
  array_short P = omega (arith, length_array.of P.usage P.rank P.lo P.hi P.stands, readable_short s q P)

-- a map

unfoldable pub LengthOf : ℕ → ℕ → List ℕ → Type 0
LengthOf n₀ n text = n ≡ n₀ + length text

pub length_start : (s : List ℕ) (q : ℕ) (c : Kind) (x n : ℕ) → Readable s q → c ≡ kind_of (command_in s q) → c ≡ OffsetBase → x ≡ child_in s q → n ≡ own_width (command_of c) → Writing (LengthOf n n) s q x n 917504
unfolding LengthOf
length_start s q c x n P ec e₃ ex e =
    writing_none s q c x n 917504 P ec e₃ ex (omega (arith, own_length P.usage s q c n P.rank P.lo P.hi ec e P.stands, readable_short s q P)) (omega arith)

module _ (s : List ℕ) (q i n₀ n m : ℕ) (W : Writing (LengthOf n₀ n) s q i n₀ 917504) (ne : i ≡ 0 → ⊥) (L : LengthIs s i m) where
  pub length_short : n + (4 + m) ≤ 917504
  unfolding LengthOf
  length_short =
      let v = entry_readable s q i n₀ 917504 W ne in
      omega (arith, written_done s q i n₀ 917504 W ne, L.of v.usage v.rank v.lo v.hi v.stands, entry_fits s q i n₀ 917504 W ne)

  pub length_more : (i' : ℕ) → i' ≡ next_in s i → Writing (LengthOf n₀ (n + (4 + m))) s q i' n₀ 917504
  unfolding LengthOf
  length_more i' e = writing_more s q i n₀ 917504 W ne i' e (λ text v rank lo hi h done.
      omega (
        arith,
        done,
        L.of v rank lo hi h,
        length-append text (bytes 4 (offset_in s i) ++ write_node v),
        length-append (bytes 4 (offset_in s i)) (write_node v),
        bytes_length 4 (offset_in s i),
      ))

pub length_end : (s : List ℕ) (q : ℕ) (c : Kind) (i n₀ n : ℕ) → Writing (LengthOf n₀ n) s q i n₀ 917504 → i ≡ 0 → c ≡ kind_of (command_in s q) → n₀ ≡ own_width (command_of c) → LengthIs s q n
unfolding LengthOf
length_end s q c i n₀ n W z ec e = record {
  of = λ u rank lo hi h.
      let B = below u s q rank lo hi W.three h in
      omega (
        arith,
        own_length u s q c n₀ rank lo hi ec e h,
        writing_done s q i n₀ 917504 W z B.entries rank (suc (rank q)) hi B.row,
        ap length B.writes,
        length-append (write_head (head_of u)) (write_entries B.entries),
      );
}
