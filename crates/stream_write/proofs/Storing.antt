-- A usage comes to its place: its own part, and behind it what is linked below it.
-- Assumes nothing.
use Prim.Native.Nat.{ℕ, suc, ◌+◌, ◌≤◌}
use mathlib.Core.Path.{◌≡◌, refl, ap, sym, ◌∙◌, subst}
use mathlib.Core.List.{List}
use native.Mathlib.Omega.{arith}
use lib.ListN.{length, length-append}
use Rattle.definitions.specs.Usage.{Usage, unused, leaf, map, array, Entries}
use Rattle.definitions.specs.Command.{head_of}
use Rattle.definitions.specs.Stream.{bytes, write_head, write_node, write_entries}
use Rattle.definitions.proofs.Numbers.{bytes_length}
use Rattle.numbers.specs.Words.{Width}
use Rattle.qptr.specs.declared.Kind.{Kind}
use Rattle.qptr.specs.declared.Kind.TheVariants.{OffsetBase, DynOffsetBase}
use Rattle.qptr.specs.Values.{kind_of}
use Rattle.records.specs.Records.{command_in, next_in, child_in, offset_in}
use Rattle.numbers.specs.Widths.{own_width}
use Rattle.record_links.specs.Standing.{Row}
use Rattle.stream_write.specs.Nodes.{Put, Onto}
use Rattle.stream_write.specs.declared.Output.{Output}
use Rattle.stream_write.specs.Writing.{Readable, Fitting, OwnFitting, OwnPut, UsagePut}
use Rattle.numbers.proofs.Widths.{four_bytes, head_length}
use Rattle.stream_write.proofs.Stores.{put_more, onto_as, onto_then, onto_more}
use Rattle.stream_write.proofs.Writing.{one_writes, Element, element, element_readable, below, Writing, writing_none, writing_done, writing_more, entry_readable, written_done, entry_fits}

own_within : (u : Usage) → own_width (head_of u).command ≤ length (write_node u)
own_within (unused z) = omega (arith, head_length (head_of (unused z)))
own_within (leaf z k t) = omega (arith, head_length (head_of (leaf z k t)))
own_within (map z es) = let h = head_of (map z es) in omega (arith, head_length h, length-append (write_head h) (write_entries es))
own_within (array z n e) = let h = head_of (array z n e) in omega (arith, head_length h, length-append (write_head h) (write_node e))

pub own_fitting : (s : List ℕ) (q : ℕ) (out : List ℕ) (at : ℕ) → Fitting s q out at → OwnFitting s q out at
own_fitting s q out at F = record { standing = F.standing; room = omega (arith, F.room, own_within F.standing.usage) }

pub put_one : {s : List ℕ} {q : ℕ} {c : Kind} {o o' : Output} → c ≡ kind_of (command_in s q) → (c ≡ DynOffsetBase → ⊥) → (c ≡ OffsetBase → ⊥) → Onto (OwnPut s q) o o' → Onto (UsagePut s q) o o'
put_one {s} {q} {c} {o} {o'} ec n₄ n₃ = onto_as λ O. record {
  of = λ u rank lo hi h. subst (λ (x : List ℕ). Put x o.buffer.now o.at o'.buffer.now o'.at) (one_writes u s q c rank lo hi ec n₄ n₃ h) (O.of u rank lo hi h);
}

-- an array

module _ {s : List ℕ} {q : ℕ} {c : Kind} {x : ℕ} {o o₁ : Output} (ec : c ≡ kind_of (command_in s q)) (e₄ : c ≡ DynOffsetBase) (ex : x ≡ child_in s q) (O : Onto (OwnPut s q) o o₁) where
  pub element_fitting : Fitting s q o.buffer.now o.at → Fitting s x o₁.buffer.now o₁.at
  element_fitting F =
      let P = F.standing in
      let u = P.usage in
      let E : Element u s q x P.rank P.hi = element u s q c x P.rank P.lo P.hi ec e₄ ex P.stands in
      record {
        standing = element_readable s q c x P ec e₄ ex;
        room = omega (arith, F.room, O.long, (O.is.of u P.rank P.lo P.hi P.stands).behind, ap length E.writes, length-append (write_head (head_of u)) (write_node E.node));
      }

  pub put_array : {o₂ : Output} → Onto (UsagePut s x) o₁ o₂ → Onto (UsagePut s q) o o₂
  put_array {o₂} = onto_then (λ (A : OwnPut s q o.buffer.now o.at o₁.buffer.now o₁.at) B. record {
    of = λ u rank lo hi h.
        let E = element u s q c x rank lo hi ec e₄ ex h in
        subst (λ (t : List ℕ). Put t o.buffer.now o.at o₂.buffer.now o₂.at) (sym E.writes) (put_more (A.of u rank lo hi h) (B.of E.node rank (suc (rank q)) hi E.stands));
  }) O

-- a map

unfoldable pub PutFrom : Output → Output → List ℕ → Type 0
PutFrom o₀ o text = Onto (Put text) o₀ o

pub put_start : {s : List ℕ} {q : ℕ} {c : Kind} {x : ℕ} {oₑ o : Output} → Fitting s q oₑ.buffer.now oₑ.at → c ≡ kind_of (command_in s q) → c ≡ OffsetBase → x ≡ child_in s q → Onto (OwnPut s q) oₑ o
    → Writing (PutFrom o o) s q x o.at (length o.buffer.now)
unfolding PutFrom
put_start {s} {q} {c} {x} {oₑ} {o} F ec e₃ ex O =
    let P = F.standing in
    writing_none s q c x o.at (length o.buffer.now) P ec e₃ ex (omega (arith, F.room, O.long, (O.is.of P.usage P.rank P.lo P.hi P.stands).behind))
    (record { is = record { stored = refl; behind = omega arith }; long = refl; same_buffer = refl })

module _ {s : List ℕ} {q i : ℕ} (o₀ o : Output) (W : Writing (PutFrom o₀ o) s q i o₀.at (length o₀.buffer.now)) (ne : i ≡ 0 → ⊥) where
  abbrev entry : Readable s i
  entry = entry_readable s q i o₀.at (length o₀.buffer.now) W ne

  entry_room : o.at + 4 + length (write_node entry.usage) ≤ length o.buffer.now
  unfolding PutFrom
  entry_room = let D = written_done s q i o₀.at (length o₀.buffer.now) W ne in omega (arith, D.is.behind, D.long, entry_fits s q i o₀.at (length o₀.buffer.now) W ne)

  pub offset_fits : Width 4 × (o.at + 4 ≤ length o.buffer.now)
  offset_fits = (four_bytes, omega (arith, entry_room))

  module _ {o₁ : Output} (n : ℕ) (A : Onto (Put (bytes 4 n)) o o₁) where
    pub entry_fitting : Fitting s i o₁.buffer.now o₁.at
    entry_fitting = record { standing = entry; room = omega (arith, entry_room, A.is.behind, A.long, bytes_length 4 n) }

    pub put_next : {o₂ : Output} {i' : ℕ} → n ≡ offset_in s i → Onto (UsagePut s i) o₁ o₂ → i' ≡ next_in s i → Writing (PutFrom o₀ o₂) s q i' o₀.at (length o₀.buffer.now)
    unfolding PutFrom
    put_next {o₂} {i'} en U e =
        let A' : Onto (Put (bytes 4 (offset_in s i))) o o₁ = subst (λ (x : ℕ). Onto (Put (bytes 4 x)) o o₁) en A in
        writing_more s q i o₀.at (length o₀.buffer.now) W ne i' e (λ text v rank lo hi h done. onto_more done (onto_more A' (onto_as (λ (P : UsagePut s i o₁.buffer.now o₁.at o₂.buffer.now o₂.at). P.of v rank lo hi h) U)))

pub put_end : {s : List ℕ} {q i : ℕ} {oₑ : Output} (o₀ o : Output) → Onto (OwnPut s q) oₑ o₀ → Writing (PutFrom o₀ o) s q i o₀.at (length o₀.buffer.now) → i ≡ 0 → Onto (UsagePut s q) oₑ o
unfolding PutFrom
put_end {s} {q} {i} {oₑ} o₀ o O W z =
    let P = W.standing in
    let all : (es : Entries) (rank : ℕ → ℕ) (lo hi : ℕ) → Row es s (child_in s q) 0 rank lo hi → Onto (Put (write_entries es)) o₀ o = writing_done s q i o₀.at (length o₀.buffer.now) W z in
    let D = all W.entries.entries P.rank (suc (P.rank q)) P.hi W.entries.row in
    record {
      is = record {
        of = λ u rank lo hi h.
            let B = below u s q rank lo hi W.three h in
            subst (λ (t : List ℕ). Put t oₑ.buffer.now oₑ.at o.buffer.now o.at) (sym B.writes) (put_more (O.is.of u rank lo hi h) (all B.entries rank (suc (rank q)) hi B.row).is);
      };
      long = D.long ∙ O.long;
      same_buffer = D.same_buffer ∙ O.same_buffer;
    }
