-- What `merge` gives back, by what was met and by the first bytes of the two streams: a refusal; the first stream, where they are no two
-- Buffers and no two Memories; else what merging the usages that were read comes to, behind the same first byte.
-- Assumes nothing.
use Prim.Native.Nat.{ℕ, ◌≤◌}
use mathlib.Core.Path.{◌≡◌, refl, sym, ap, ◌∙◌}
use mathlib.Core.Bool.{Bool, true}
use mathlib.Core.List.{List, ◌∷◌}
use mathlib.Core.Option.{some}
use native.Mathlib.Omega.{arith}
use lib.ListN.{length, get_or}
use Rattle.definitions.specs.Usage.{Usage, Top, opaque, buffer, memory, top_nodes}
use Rattle.definitions.specs.Stream.{write_node, write_top, top_of}
use Rattle.definitions.specs.Table.{Table as Layouts, Setting}
use Rattle.definitions.specs.Place.{Result, refused, done, under, merge_mem, unlike, merge}
use Rattle.definitions.specs.Calls.{written, merge_call}
use Rattle.definitions.proofs.Written.{Bytes}
use Rattle.definitions.proofs.Rounds.{top_written}
use Rattle.place_states.specs.Calls.{merging}
use Rattle.qptr.specs.Choices.{choices_in}
use Rattle.qptr.specs.declared.choices.Choices.{Choices}
use Rattle.stream.specs.Found.{top_bound, told}
use Rattle.stream.specs.declared.Found.{Found}
use Rattle.std.specs.Prelude.{Option, Result as Returned}
use Rattle.layout.specs.Located.{Holds}
use Rattle.layout.specs.declared.table.Table.{Table as CodeTable}
use Rattle.layout.proofs.Uses.{known as known_table}
use Rattle.call_inputs.specs.Inputs.{Good}
use Rattle.call_inputs.specs.Tops.{OpaqueFirst, Conflicts}
use Rattle.call_answers.specs.Writing.{Gives, unlike_report}
use Rattle.call_answers.specs.declared.Refusal.{Refusal}
use Rattle.call_answers.specs.declared.Written.{Written}
use Rattle.call_inputs.specs.declared.Nodes.{Nodes}
use Rattle.call_inputs.proofs.Types.{top_types_in_lem}
use Rattle.call_inputs.proofs.Accepting.{Going, goes_on}
use Rattle.calls.specs.Loaded.{Pair, PairGiven}
use Rattle.calls.proofs.Pairs.{pair_of}
use Rattle.calls.proofs.Calling.{Call, call_goes}
use Rattle.call_inputs.proofs.FirstBytes.{first_byte_of, some_bytes, first_byte, opaque_by}

-- what is told of a stream
abbrev pub told_top : List ℕ → Option Found
told_top bs = told top_nodes top_bound (top_of bs)

-- tops of different kinds
of_unlike : (st : Setting) (x y : Top) → (first_byte_of x ≡ first_byte_of y → ⊥) → merge st x y ≡ unlike x
of_unlike st (opaque s) (opaque t) differ = absurd (differ refl)
of_unlike st (opaque s) (buffer b) differ = refl
of_unlike st (opaque s) (memory b) differ = refl
of_unlike st (buffer a) (opaque t) differ = refl
of_unlike st (buffer a) (buffer b) differ = absurd (differ refl)
of_unlike st (buffer a) (memory b) differ = refl
of_unlike st (memory a) (opaque t) differ = refl
of_unlike st (memory a) (buffer b) differ = refl
of_unlike st (memory a) (memory b) differ = absurd (differ refl)

-- and of the same
data Alike : Top → Top → Type 0 where
  buffers : (a b : Usage) → Alike (buffer a) (buffer b)
  memories : (a b : Usage) → Alike (memory a) (memory b)

alike : (x y : Top) → (first_byte_of x ≡ 0x08 → ⊥) → first_byte_of x ≡ first_byte_of y → Alike x y
alike (opaque s) y not8 same = absurd (not8 refl)
alike (buffer a) (opaque t) not8 same = absurd (omega arith)
alike (buffer a) (buffer b) not8 same = buffers a b
alike (buffer a) (memory b) not8 same = absurd (omega arith)
alike (memory a) (opaque t) not8 same = absurd (omega arith)
alike (memory a) (buffer b) not8 same = absurd (omega arith)
alike (memory a) (memory b) not8 same = memories a b

under_both : {A B C : Type 0} (f : A → B) (g : B → C) (x : Result A) → under g (under f x) ≡ under (λ a. g (f a)) x
under_both f g (refused k) = refl
under_both f g (done a w p) = refl

module _ (ch : Choices) (table : List ℕ) (work : ℕ) (first second : List ℕ) where
  -- the setting over a table
  abbrev over : Layouts → Setting
  over t = record { table = t; choices = choices_in ch }

  abbrev next : Layouts → Top → Top → Result (List ℕ)
  next t a b = under write_top (merge (over t) a b)

  pub merge_is : (output : List ℕ) (n : ℕ)
      → Call top_nodes top_bound top_nodes top_bound next table work (top_of first) (top_of second) (written output n) (merge_call (choices_in ch) table work first second output n)
  unfolding merge_call
  merge_is output n = record { is = simp top_types_in_lem }

  module _ {starts : List ℕ} {n : Nodes} (good : Good table work (told_top first) (told_top second) starts n) (bytes : Bytes first) (bytes' : Bytes second) where
    abbrev layouts : Layouts
    layouts = good.begun.records.layouts

    abbrev setting : Setting
    setting = over layouts

    pub goes : Going top_nodes top_bound top_nodes top_bound next table work (top_of first) (top_of second) layouts n.first n.second
    goes = goes_on top_nodes top_bound top_nodes top_bound next table work (top_of first) (top_of second) good

    pub first_some : 1 ≤ length first
    first_some = some_bytes first bytes goes.first_is

    pub second_some : 1 ≤ length second
    second_some = some_bytes second bytes' goes.second_is

    -- the first stays

    keeps : (w : List ℕ) → merge setting goes.first goes.second ≡ done goes.first w 0 → (output : List ℕ) (n : ℕ)
        → {r : Returned Written Refusal} {output' rep : List ℕ} → Gives (written output n (done first w 0)) r output' rep
        → Gives (merge_call (choices_in ch) table work first second output n) r output' rep
    keeps w e output n gives =
        let all : next layouts goes.first goes.second ≡ done first w 0 = ap (under write_top) e ∙ ap (λ (bs : List ℕ). done bs w 0) (sym (top_written first goes.first bytes goes.first_is).0) in
        rw (call_goes (merge_is output n) goes, all) gives

    module _ (is : get_or first 0 0 ≡ 0x08) where
      pub opaque_first : OpaqueFirst first second
      opaque_first =
          let o = opaque_by first bytes goes.first_is is in
          record { type = o.0; other = goes.second; first_is = o.1; second_is = goes.second_is }

      pub merge_opaque : {unlike : Bool} → Conflicts first second unlike → (output : List ℕ) (n : ℕ) {r : Returned Written Refusal} {output' rep : List ℕ}
          → Gives (written output n (done first (unlike_report unlike) 0)) r output' rep → Gives (merge_call (choices_in ch) table work first second output n) r output' rep
      merge_opaque {unlike} conflicts output n gives =
          let o = opaque_first in
          let same : goes.first ≡ opaque o.type = cc (goes.first_is, o.first_is) in
          keeps (unlike_report unlike) (rw same (conflicts.of setting o.type goes.second o.first_is goes.second_is)) output n gives

    pub merge_unlike : (get_or first 0 0 ≡ get_or second 0 0 → ⊥) → (output : List ℕ) (n : ℕ) {r : Returned Written Refusal} {output' rep : List ℕ}
        → Gives (written output n (done first (unlike_report true) 0)) r output' rep → Gives (merge_call (choices_in ch) table work first second output n) r output' rep
    merge_unlike differ output n gives =
        keeps (unlike_report true)
        (of_unlike setting goes.first goes.second (λ same. differ (first_byte first bytes goes.first_is ∙ same ∙ sym (first_byte second bytes' goes.second_is))))
        output n gives

    -- two tops merge as the usages of the two streams do, behind this first byte
    pub record Merged (x y : Top) (top : ℕ) : Type 0 where
      pub pair : Pair layouts first second n
      pub is : next layouts x y ≡ under (λ u. top ∷ write_node u) (merge_mem setting pair.a pair.b)

    -- so do those that were read
    abbrev pub ReadMerged : ℕ → Type 0
    ReadMerged top = Merged goes.first goes.second top

    pub merge_alike : (get_or first 0 0 ≡ 0x08 → ⊥) → get_or first 0 0 ≡ get_or second 0 0 → ReadMerged (get_or first 0 0)
    merge_alike not8 same =
        go (alike goes.first goes.second (λ e. not8 (left ∙ e)) (sym left ∙ same ∙ first_byte second bytes' goes.second_is))
        goes.first_is goes.second_is goes.first_nodes goes.second_nodes goes.first_known goes.second_known
      where
        left : get_or first 0 0 ≡ first_byte_of goes.first
        left = first_byte first bytes goes.first_is

        go : {x y : Top} → Alike x y → top_of first ≡ some x → top_of second ≡ some y → n.first ≡ top_nodes x → n.second ≡ top_nodes y
            → top_bound x ≤ length layouts → top_bound y ≤ length layouts → Merged x y (get_or first 0 0)
        go (buffers a b) e f p q k l = record {
          pair = pair_of layouts 0x09 a b (top_written first (buffer a) bytes e) (top_written second (buffer b) bytes' f) k l p q;
          is = rw (first_byte first bytes e) (under_both buffer write_top (merge_mem setting a b));
        }
        go (memories a b) e f p q k l = record {
          pair = pair_of layouts 0x0A a b (top_written first (memory a) bytes e) (top_written second (memory b) bytes' f) k l p q;
          is = rw (first_byte first bytes e) (under_both memory write_top (merge_mem setting a b));
        }

    pub merge_gives : {top : ℕ} (k : ReadMerged top) {lent : CodeTable} → Holds lent table starts good.types → (output rep : List ℕ)
        → {r : Returned Written Refusal} {output' rep' : List ℕ} → PairGiven top merging (record { table = lent; choices = ch }) first second n output rep r output' rep'
        → Gives (merge_call (choices_in ch) table work first second output (length rep)) r output' rep'
    unfolding merging
    merge_gives k holds output rep given =
        rw (call_goes (merge_is output (length rep)) goes, k.is) (given.of setting (known_table good.begun.records holds) k.pair good.few)
