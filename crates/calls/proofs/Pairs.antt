-- Two usages that were read, with types of the table and few nodes: they are loaded into the work area, where they are ready to be
-- placed one into the other, and what that leaves in the work area is what the definition gives.
-- Assumes nothing.
use Prim.Native.Nat.{ℕ, ◌+◌, ◌≤◌}
use mathlib.Core.Path.{◌≡◌, sym}
use mathlib.Core.List.{List, [], ◌∷◌, append-nil}
use native.Mathlib.Omega.{arith}
use borrow.Author.Tests.{le-leb}
use lib.ListN.{length, take}
use Rattle.definitions.specs.Limits.{node_limit, work_limit}
use Rattle.definitions.specs.Usage.{Usage, nodes}
use Rattle.definitions.specs.Stream.{write_node}
use Rattle.definitions.specs.Table.{Table as Layouts, Setting}
use Rattle.definitions.specs.Place.{Result}
use Rattle.definitions.proofs.FewPairings.{place_few, merge_mem_few}
use Rattle.definitions.proofs.Writable.{Writable}
use Rattle.definitions.proofs.Storable.{known_storable}
use Rattle.definitions.proofs.Rounds.{write_read}
use Rattle.qptr.specs.Choices.{choices_in}
use Rattle.record_links.specs.Rows.{nodes_at}
use Rattle.layout.specs.Located.{Known}
use Rattle.stream.specs.Found.{type_bound}
use Rattle.stream.specs.declared.Found.{Found}
use Rattle.std.specs.Prelude.{Option, Result as Returned}
use Rattle.layout.specs.Located.{Holds}
use Rattle.layout.specs.declared.setting.Setting.{Setting as CodeSetting}
use Rattle.layout.proofs.Uses.{known as known_table}
use Rattle.report.specs.Emitted.{SameBuffer}
use Rattle.report.specs.declared.Report.{Report}
use Rattle.call_inputs.specs.declared.Nodes.{Nodes}
use Rattle.stream_load.specs.Loading.{by_number}
use Rattle.place_states.specs.Calls.{Two, NoWrap, Placed, ground, placing, merging}
use Rattle.place_states.specs.declared.SizeRefusal.{SizeRefusal}
use Rattle.place_states.specs.declared.Merged.{Merged}
use Rattle.call_inputs.specs.Inputs.{Good, BothLoaded}
use Rattle.call_answers.specs.Writing.{Gives, Reached, Reachable, Finished}
use Rattle.call_answers.specs.declared.Refusal.{Refusal}
use Rattle.call_answers.specs.declared.Written.{Written}
use Rattle.call_inputs.proofs.Types.{types_in_lem}
use Rattle.call_inputs.proofs.Lending.{near_two}
use Rattle.place_states.proofs.Answering.{done_kept}
use Rattle.call_answers.proofs.Reaching.{FewIn, reached}
use Rattle.calls.specs.Loaded.{Usable, Pair, PairReady, PairGiven}
use Rattle.calls.proofs.Lent.{area_lent}

pub usable : (t : Layouts) {bs : List ℕ} (c : ℕ) {u : Usage} → bs ≡ c ∷ write_node u → Writable u → type_bound u ≤ length t → Usable t bs u
usable t c {u} e fits known = record {
  reads = rw e (rw append-nil at (write_read u [] fits));
  fits = known_storable t u fits (rw (types_in_lem t u) (le-leb (type_bound u) (length t) known));
}

-- two streams with the same first byte
abbrev pub pair_of : (t : Layouts) {first second : List ℕ} {n : Nodes} (c : ℕ) (a b : Usage) → (first ≡ c ∷ write_node a) × Writable a → (second ≡ c ∷ write_node b) × Writable b
    → type_bound a ≤ length t → type_bound b ≤ length t → n.first ≡ nodes a → n.second ≡ nodes b → Pair t first second n
pair_of t c a b w v known known' counted counted' = record {
  a = a;
  b = b;
  left = usable t c w.0 w.1 known;
  right = usable t c v.0 v.1 known';
  left_nodes = counted;
  right_nodes = counted';
}

pub pair_ready : {table starts : List ℕ} {size : ℕ} {x y : Option Found} {n : Nodes} (good : Good table size x y starts n) {lent : CodeSetting} → Holds lent.table table starts good.types
    → {first second : List ℕ} → Pair good.begun.records.layouts first second n
    → {k : ℕ} → k ≡ work_limit → (work : List ℕ) → length work ≡ size → PairReady lent first second n (take k work)
pair_ready good {lent} holds pair asked work same = record {
  setting = record { table = good.begun.records.layouts; choices = choices_in lent.choices };
  known = known_table good.begun.records holds;
  pair = pair;
  few = good.few;
  area = area_lent asked work same good.begun.enough;
}

-- what placing and merging answer is made of few nodes

pub placing_few : (offset : ℕ) (st : Setting) (a b : Usage) (n : ℕ) → nodes a + nodes b ≤ n → FewIn n (placing offset st a b)
unfolding placing
placing_few offset st a b n few u w p e = place_few st a offset b e few

pub merging_few : (st : Setting) (a b : Usage) (n : ℕ) → nodes a + nodes b ≤ n → FewIn n (merging st a b)
unfolding merging
merging_few st a b n few u w p e = merge_mem_few st a b e few

module _ {code : CodeSetting} {first second : List ℕ} {n : Nodes} {work : List ℕ} (ready : PairReady code first second n work) where
  module _ {work₁ : List ℕ} (same : length work₁ ≡ length work) (loaded : BothLoaded first second n work work₁) where
    two : (st : Setting) (pair : Pair st.table first second n)
        → Two (length st.table) work₁ 1 (1 + n.first) by_number 1 (1 + n.first) (1 + n.first + n.second) pair.a pair.b
    two st pair = record {
      left = loaded.left pair.a pair.left.reads (sym pair.left_nodes);
      right = loaded.right pair.b pair.right.reads (sym pair.right_nodes);
      left_fits = pair.left.fits;
      right_fits = pair.right.fits;
      few = omega (arith, ready.few, pair.left_nodes, pair.right_nodes);
    }

    pub near : NoWrap 0 (nodes_at work₁ 1 + nodes_at work₁ (1 + n.first))
    near = near_two (two ready.setting ready.pair) 0 (omega arith)

    module _ (z : Setting → Usage → Usage → Result Usage) (small : (st : Setting) (a b : Usage) (m : ℕ) → nodes a + nodes b ≤ m → FewIn m (z st a b)) {work₂ : List ℕ} {rep rep₂ : Report}
        (start : rep.at ≡ 0) where
      reaches : {r : Returned Merged SizeRefusal} → Placed z code work₁ 1 (1 + n.first) work₂ r rep rep₂
          → (st : Setting) → Known code st → (pair : Pair st.table first second n) → Reached (z st pair.a pair.b) work₂ r rep₂
      reaches {r} placed st known pair =
          reached node_limit (omega arith) (ground work₁ by_number 1 (1 + n.first + n.second) rep) start work₂ rep₂ r (z st pair.a pair.b)
          (small st pair.a pair.b node_limit (omega (arith, ready.few, pair.left_nodes, pair.right_nodes)))
          (placed.done st known pair.a pair.b by_number 1 (1 + n.first) (1 + n.first + n.second) (two st pair))

      -- what was reported is in the buffer that was lent
      pub same_buffer : {r : Returned Merged SizeRefusal} → Placed z code work₁ 1 (1 + n.first) work₂ r rep rep₂ → SameBuffer rep rep₂
      same_buffer {r} placed =
          done_kept (z ready.setting ready.pair.a ready.pair.b) (ground work₁ by_number 1 (1 + n.first + n.second) rep) work₂ r rep₂
          (placed.done ready.setting ready.known ready.pair.a ready.pair.b by_number 1 (1 + n.first) (1 + n.first + n.second) (two ready.setting ready.pair))

      pub reachable : {r : Returned Merged SizeRefusal} → Placed z code work₁ 1 (1 + n.first) work₂ r rep rep₂ → Reachable work₂ r rep₂
      reachable placed = record { result = z ready.setting ready.pair.a ready.pair.b; reached = reaches placed ready.setting ready.known ready.pair }

      pub given : {m : Returned Merged SizeRefusal} → Placed z code work₁ 1 (1 + n.first) work₂ m rep rep₂
          → {top : ℕ} {output report : List ℕ} {r : Returned Written Refusal} {output' : List ℕ} {rep₃ : Report} {report' : List ℕ}
          → length rep₂.buffer.now ≡ length report → report' ≡ rep₃.buffer.now → Finished Gives top m work₂ output rep₂ r output' rep₃
          → PairGiven top z code first second n output report r output' report'
      given placed long same finished = record { of = λ st known pair few. rw (← long, same) (finished.of (z st pair.a pair.b) (reaches placed st known pair)) }
