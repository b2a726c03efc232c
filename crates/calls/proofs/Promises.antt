-- What is promised of folding sound nodes holds of the definition of the call, by the theorem about lists of sound nodes: the other
-- refusals that such a call can meet, 1, 7, 10 and 11, are no 8 or 9. Nodes that are read keep the stream rules, so the usage does.
-- Assumes nothing.
use Prim.Native.Nat.{ℕ}
use mathlib.Core.Path.{◌≡◌, refl}
use mathlib.Core.Bool.{true, false}
use mathlib.Core.List.{List, ◌∷◌}
use mathlib.Core.Option.{some}
use native.Mathlib.Omega.{arith}
use lib.Dec.{ltb}
use lib.ListN.{length, drop}
use lib.Seq.{take_at}
use Rattle.definitions.specs.Limits.{node_limit, work_limit}
use Rattle.definitions.specs.Usage.{Usage, memory, Nodes, all_nodes}
use Rattle.definitions.specs.Stream.{write_top, list_of}
use Rattle.definitions.specs.Table.{Table, Setting, table_of}
use Rattle.definitions.specs.Place.{Result, refused, done, under, fold}
use Rattle.definitions.specs.Sound.{Sound, Storable, Each, Fulfils, Promise}
use Rattle.definitions.specs.Calls.{Written, all_types_in, written, fold_call}
use Rattle.definitions.specs.Requests.Choices.{Choices}
use Rattle.definitions.proofs.Choice.{either}
use Rattle.definitions.proofs.Written.{Bytes}
use Rattle.definitions.proofs.ReadsBack.{list_storable}
use Rattle.definitions.proofs.Demand.{demand}
use Rattle.call_answers.specs.Writing.{Gives}
use Rattle.calls.specs.Promised.{SoundlyFolded, Promised}
use Rattle.std.specs.Prelude.{Result as Returned}
use Rattle.call_answers.specs.declared.Refusal.{Refusal}
use Rattle.call_answers.specs.declared.Written.{Written as Counted}
use Rattle.call_answers.specs.Answers.{told_of}

module _ (t : Table) (ns : Nodes) (output : List ℕ) (n : ℕ) where
  abbrev Kept : Written → Type 0
  Kept x = SoundlyFolded t ns x.answer x.output

  abbrev KeptBy : Result (List ℕ) → Type 0
  KeptBy r = Kept (written output n r)

  other_refusal : (k : ℕ) → (k ≡ 8 → ⊥) → (k ≡ 9 → ⊥) → (k ≡ 0 → ⊥) → KeptBy (refused k)
  other_refusal k not_8 not_9 not-0 = record { not_8 = not_8; not_9 = not_9; answered = λ e. absurd (not-0 e) }

  answer : (u : Usage) (w : List ℕ) (p : ℕ) → Fulfils ns u p → Storable (length t) u → KeptBy (done (write_top (memory u)) w p)
  answer u w p fulfils storable =
      let bs : List ℕ = write_top (memory u) in
      either Kept (ltb (length output) (length bs)) (other_refusal 10 (omega arith) (omega arith) (omega arith))
      (either Kept (ltb n (length w)) (other_refusal 11 (omega arith) (omega arith) (omega arith)) (record {
        not_8 = λ e. omega arith;
        not_9 = λ e. omega arith;
        answered = λ _. record {
          usage = u;
          written = take_at bs (drop (length bs) output) (length bs) refl;
          fulfils = fulfils;
          storable_usage = storable;
        };
      }))

  folded : (r : Result Usage) → Each (Storable (length t)) ns → Promise ns r → KeptBy (under (λ u. write_top (memory u)) r)
  folded (refused k) fit promise = absurd promise
  folded (done u w p) fit promise = answer u w p promise (promise.storable_usage (length t) fit)

module _ (ch : Choices) (table : List ℕ) (work : ℕ) (list : List ℕ) (bytes : Bytes list) (output : List ℕ) (n : ℕ) where
  call_promised : (t : Table) (ns : Nodes) → table_of table ≡ some t → list_of list ≡ some ns → all_types_in t (ns.first ∷ ns.others) ≡ true → Each Sound ns
      → Kept t ns output n (fold_call ch table work list output n)
  unfolding fold_call
  call_promised t ns is-table is-list known sound =
      let st : Setting = record { table = t; choices = ch } in
      let other : (k : ℕ) → (k ≡ 8 → ⊥) → (k ≡ 9 → ⊥) → (k ≡ 0 → ⊥) → KeptBy t ns output n (refused k) = other_refusal t ns output n in
      rw (is-table, is-list, known)
      (either (KeptBy t ns output n) (ltb work work_limit) (other 1 (omega arith) (omega arith) (omega arith))
      (either (KeptBy t ns output n) false (other 5 (omega arith) (omega arith) (omega arith))
      (either (KeptBy t ns output n) (ltb node_limit (all_nodes ns)) (other 7 (omega arith) (omega arith) (omega arith))
      (folded t ns output n (fold st ns) (list_storable t list bytes ns is-list known) (demand st ns sound)))))

  pub with_promise : {r : Returned Counted Refusal} {output' report' : List ℕ} → Gives (fold_call ch table work list output n) r output' report'
      → Gives (fold_call ch table work list output n) r output' report' × Promised table list (told_of r) output'
  with_promise gives = (gives, rw (gives.numbers, gives.usage) (record { of = call_promised }))
