-- What `place` gives back, by what was met: a refusal, or what placing the two usages that were read comes to.
-- Assumes nothing.
use Prim.Native.Nat.{ℕ}
use mathlib.Core.List.{List}
use lib.ListN.{length}
use Rattle.std.specs.Prelude.{Result as Returned}
use Rattle.definitions.specs.Usage.{Usage, nodes, memory}
use Rattle.definitions.specs.Stream.{write_top, memory_of}
use Rattle.definitions.specs.Table.{Table}
use Rattle.definitions.specs.Place.{Result, under, place}
use Rattle.definitions.specs.Calls.{written, place_call}
use Rattle.definitions.proofs.Written.{Bytes}
use Rattle.definitions.proofs.Rounds.{memory_written}
use Rattle.qptr.specs.Choices.{choices_in}
use Rattle.qptr.specs.declared.choices.Choices.{Choices}
use Rattle.place_states.specs.Calls.{placing}
use Rattle.stream.specs.Found.{type_bound}
use Rattle.call_inputs.specs.Inputs.{Good}
use Rattle.call_answers.specs.Writing.{Gives}
use Rattle.call_answers.specs.declared.Refusal.{Refusal}
use Rattle.call_answers.specs.declared.Written.{Written}
use Rattle.call_inputs.specs.declared.Nodes.{Nodes}
use Rattle.call_inputs.proofs.Types.{types_in_lem}
use Rattle.call_inputs.proofs.Accepting.{Going, goes_on}
use Rattle.calls.specs.Loaded.{Pair, PairGiven}
use Rattle.layout.specs.Located.{Holds}
use Rattle.layout.specs.declared.table.Table.{Table as CodeTable}
use Rattle.layout.proofs.Uses.{known as known_table}
use Rattle.calls.proofs.Memories.{told_memory}
use Rattle.calls.proofs.Pairs.{pair_of}
use Rattle.calls.proofs.Calling.{Call, call_goes}

module _ (ch : Choices) (table : List ℕ) (work : ℕ) (first : List ℕ) (offset : ℕ) (second : List ℕ) where
  abbrev pub next : Table → Usage → Usage → Result (List ℕ)
  next t a b = under (λ u. write_top (memory u)) (place (record { table = t; choices = choices_in ch }) a offset b)

  pub place_is : (output : List ℕ) (n : ℕ)
      → Call nodes type_bound nodes type_bound next table work (memory_of first) (memory_of second) (written output n) (place_call (choices_in ch) table work first offset second output n)
  unfolding place_call
  place_is output n = record { is = simp types_in_lem }

  module _ {starts : List ℕ} {n : Nodes} (good : Good table work (told_memory first) (told_memory second) starts n) (bytes : Bytes first) (bytes' : Bytes second) where
    pub goes : Going nodes type_bound nodes type_bound next table work (memory_of first) (memory_of second) good.begun.records.layouts n.first n.second
    goes = goes_on nodes type_bound nodes type_bound next table work (memory_of first) (memory_of second) good

    abbrev pub place_pair : Pair good.begun.records.layouts first second n
    place_pair =
        pair_of good.begun.records.layouts 0x0A goes.first goes.second (memory_written first goes.first bytes goes.first_is) (memory_written second goes.second bytes' goes.second_is)
        goes.first_known goes.second_known goes.first_nodes goes.second_nodes

    pub place_gives : {lent : CodeTable} → Holds lent table starts good.types → (output rep : List ℕ) {r : Returned Written Refusal} {output' rep' : List ℕ}
        → PairGiven 0x0A (placing offset) (record { table = lent; choices = ch }) first second n output rep r output' rep'
        → Gives (place_call (choices_in ch) table work first offset second output (length rep)) r output' rep'
    unfolding placing
    place_gives holds output rep given =
        rw (call_goes (place_is output (length rep)) goes)
        (given.of (record { table = good.begun.records.layouts; choices = choices_in ch }) (known_table good.begun.records holds) place_pair good.few)
