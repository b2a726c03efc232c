-- A call of a table and two streams, whatever it makes of them: the refusal that was met, or what it makes of the two that were read. What
-- differs from call to call are the measures of the streams, the nodes and a bound on the types; what is made of the two; and how that is
-- given back.
-- Assumes nothing.
use Prim.Native.Nat.{ℕ}
use mathlib.Core.Path.{◌≡◌, ap, ◌∙◌}
use mathlib.Core.List.{List}
use mathlib.Core.Option.{Option as Maybe}
use lib.ListN.{replicate}
use Rattle.std.specs.Prelude.{Result as Returned, Err}
use Rattle.definitions.specs.Table.{Table}
use Rattle.definitions.specs.Place.{Result, refused}
use Rattle.definitions.specs.Calls.{Written as Left, with_table, written}
use Rattle.stream.specs.Found.{told}
use Rattle.call_answers.specs.Answers.{number_of}
use Rattle.call_answers.specs.Writing.{Gives}
use Rattle.call_answers.specs.declared.Refusal.{Refusal}
use Rattle.call_answers.specs.declared.Written.{Written}
use Rattle.call_answers.proofs.Giving.{gives_kept}
use Rattle.call_inputs.specs.Inputs.{Met}
use Rattle.call_inputs.proofs.Accepting.{body, refused_by, Going}

module _ {A B C D : Type 0} (n k : A → ℕ) (m l : B → ℕ) (next : Table → A → B → Result C) (table : List ℕ) (work : ℕ) (x : Maybe A) (y : Maybe B) (back : Result C → D) where
  -- the call gives back what comes of the table and the two streams
  pub record Call (answer : D) : Type 0 where
    pub is : answer ≡ back (with_table work table (body n k m l next x y))

module _ {A B C D : Type 0} {n k : A → ℕ} {m l : B → ℕ} {next : Table → A → B → Result C} {table : List ℕ} {work : ℕ} {x : Maybe A} {y : Maybe B} {back : Result C → D}
    {answer : D} (call : Call n k m l next table work x y back answer) where
  pub call_refused : {starts : List ℕ} {e : Refusal} → Met table work (told n k x) (told m l y) starts (Err e) → answer ≡ back (refused (number_of e))
  call_refused met = call.is ∙ ap back (refused_by n k m l next table work x y met)

  pub call_goes : {t : Table} {p q : ℕ} (going : Going n k m l next table work x y t p q) → answer ≡ back (next t going.first going.second)
  call_goes going = call.is ∙ ap back going.goes

-- a call that writes keeps its output, and leaves a report of zeros, where it is refused
pub call_cleared : {A B : Type 0} {n k : A → ℕ} {m l : B → ℕ} {next : Table → A → B → Result (List ℕ)} {table : List ℕ} {work : ℕ} {x : Maybe A} {y : Maybe B}
    {output : List ℕ} (size : ℕ) {answer : Left} → Call n k m l next table work x y (written output size) answer
    → {starts : List ℕ} {e : Refusal} → Met table work (told n k x) (told m l y) starts (Err e)
    → {r : Returned Written Refusal} {report : List ℕ} → r ≡ Err e → report ≡ replicate size 0 → Gives answer r output report
call_cleared {output} size call met failed zeroed = rw (call_refused call met) (gives_kept output size failed zeroed)
