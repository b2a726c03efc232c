-- What the call of `fold` gives back is what it is defined to: the refusal that was met, or what folding the list's nodes came to.
-- Assumes nothing.
use Prim.Native.Nat.{ℕ}
use mathlib.Core.Path.{◌≡◌, ap, ◌∙◌}
use mathlib.Core.List.{List, ◌∷◌}
use mathlib.Core.Option.{some}
use native.Mathlib.Omega.{arith}
use borrow.Author.Tests.{le-leb}
use lib.ListN.{length, take}
use Rattle.std.specs.Prelude.{Option, Result as Returned}
use Rattle.definitions.specs.Limits.{work_limit}
use Rattle.definitions.specs.Usage.{memory, Nodes as Listed, all_nodes}
use Rattle.definitions.specs.Stream.{write_top, list_of}
use Rattle.definitions.specs.Table.{Table, Setting}
use Rattle.definitions.specs.Place.{Result, under, fold}
use Rattle.definitions.specs.Calls.{given, all_types_in, written, fold_call}
use Rattle.definitions.proofs.Written.{Bytes}
use Rattle.definitions.proofs.ReadsBack.{list_storable}
use Rattle.qptr.specs.Choices.{choices_in}
use Rattle.qptr.specs.declared.choices.Choices.{Choices}
use Rattle.stream.specs.Found.{all_bound, told}
use Rattle.stream.specs.declared.Found.{Found}
use Rattle.layout.specs.Located.{Holds}
use Rattle.layout.specs.declared.setting.Setting.{Setting as CodeSetting}
use Rattle.layout.specs.declared.table.Table.{Table as CodeTable}
use Rattle.layout.proofs.Uses.{known as known_table}
use Rattle.call_inputs.specs.Inputs.{Good}
use Rattle.call_answers.specs.Writing.{Gives}
use Rattle.call_fold.specs.Folding.{Foldable, FoldReady}
use Rattle.call_answers.specs.declared.Refusal.{Refusal}
use Rattle.call_answers.specs.declared.Written.{Written}
use Rattle.call_inputs.specs.declared.Nodes.{Nodes}
use Rattle.calls.specs.Loaded.{ListGiven}
use Rattle.calls.proofs.Lent.{area_lent}
use Rattle.call_inputs.proofs.Types.{all_types_in_lem}
use Rattle.call_inputs.proofs.Accepting.{none_told, nothing_more, alone, as_two, Going, goes_on}
use Rattle.calls.proofs.Calling.{Call, call_goes}

-- what is told of a list
abbrev pub told_list : List ℕ → Option Found
told_list bs = told all_nodes all_bound (list_of bs)

module _ (ch : Choices) (table : List ℕ) (work : ℕ) (list : List ℕ) where
  -- the setting over a table
  abbrev over : Table → Setting
  over t = record { table = t; choices = choices_in ch }

  abbrev folded : Table → Listed → Result (List ℕ)
  folded t ns = under (λ u. write_top (memory u)) (fold (over t) ns)

  pub fold_is : (output : List ℕ) (n : ℕ)
      → Call all_nodes all_bound nothing_more nothing_more (alone folded) table work (list_of list) (some tt) (written output n) (fold_call (choices_in ch) table work list output n)
  unfolding fold_call
  fold_is output n = record { is = ap (written output n) (as_two all_nodes all_bound folded (λ t ns. all_types_in t (ns.first ∷ ns.others)) (λ t ns. all_types_in_lem t (ns.first ∷ ns.others)) table work (list_of list)) }

  module _ {starts : List ℕ} where
    module _ {n : Nodes} (good : Good table work (told_list list) none_told starts n) (bytes : Bytes list) {lent : CodeTable} (holds : Holds lent table starts good.types) where
      abbrev setting : Setting
      setting = over good.begun.records.layouts

      abbrev code : CodeSetting
      code = record { table = lent; choices = ch }

      going : Going all_nodes all_bound nothing_more nothing_more (alone folded) table work (list_of list) (some tt) setting.table n.first n.second
      going = goes_on all_nodes all_bound nothing_more nothing_more (alone folded) table work (list_of list) (some tt) good

      foldable : Foldable code list setting going.first
      foldable =
          let ns = going.first in
          record {
            known = known_table good.begun.records holds;
            is = going.first_is;
            fits =
                list_storable setting.table list bytes ns going.first_is
                (all_types_in_lem setting.table (ns.first ∷ ns.others) ∙ le-leb (all_bound ns) (length setting.table) going.first_known);
            few = omega (arith, going.first_nodes, good.few);
          }

      pub fold_ready : {k : ℕ} → k ≡ work_limit → (area : List ℕ) → length area ≡ work → FoldReady code list (take k area)
      fold_ready asked area same =
          record { setting = setting; listed = going.first; foldable = foldable; area = area_lent asked area same good.begun.enough }

      pub fold_given : (output rep : List ℕ) {r : Returned Written Refusal} {output' rep' : List ℕ} → ListGiven code list output rep r output' rep'
          → Gives (fold_call (choices_in ch) table work list output (length rep)) r output' rep'
      fold_given output rep given = rw (call_goes (fold_is output (length rep)) going) (given.of setting going.first foldable)
