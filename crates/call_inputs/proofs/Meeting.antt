-- The refusals 1 to 7, but for 6, that a call's streams meet, by what was found of the table and of each stream: each is told
-- where its test fails, and where none does the streams are good.
-- Assumes nothing.
use Prim.Native.Nat.{ℕ, max, ◌+◌, ◌<◌, ◌≤◌}
use mathlib.Core.Path.{◌≡◌, refl, sym, ◌∙◌}
use mathlib.Core.Bool.{Bool}
use mathlib.Core.List.{List}
use mathlib.Core.Option.{Option as Maybe}
use native.Mathlib.Omega.{arith}
use borrow.Author.Tests.{lt-ltb, le-ltb}
use lib.Dec.{ltb}
use Rattle.std.specs.Prelude.{Option, Some, None, Ok, Err, ok_or}
use Rattle.layout.specs.Located.{Accepted}
use Rattle.definitions.specs.If.{when◌then◌else◌}
use Rattle.definitions.specs.Limits.{node_limit, work_limit}
use Rattle.definitions.specs.Table.{Table, table_of}
use Rattle.stream.specs.declared.Found.{Found}
use Rattle.call_answers.specs.Answers.{number_of}
use Rattle.call_answers.specs.declared.Refusal.{Refusal}
use Rattle.call_answers.specs.declared.Refusal.TheVariants.{ShortWork, BadTable, BadFirst, BadSecond, UnknownType, ManyNodes}
use Rattle.call_answers.proofs.Giving.{some_number}
use Rattle.call_inputs.proofs.Refusals.{early}
use Rattle.call_inputs.specs.Inputs.{streams_refusal, table_refusal, unread, inputs_refusal, Begun, TableMet, Met}

-- 1 and 2

pub table_short : {table : List ℕ} {work : ℕ} {starts : List ℕ} → work < work_limit → TableMet table work starts (Err ShortWork)
unfolding when◌then◌else◌
table_short {work} short = record { number = rw (lt-ltb work work_limit short); good = tt }

pub table_met : {table : List ℕ} {work : ℕ} {starts : List ℕ} → work_limit ≤ work → (r : Option ℕ) → Accepted table r starts → TableMet table work starts (ok_or r BadTable)
unfolding when◌then◌else◌
table_met {work} enough None accepted = record { number = rw (le-ltb work work_limit enough, accepted.refused refl); good = tt }
table_met {work} enough (Some n) accepted =
    let records = accepted.found n refl in
    record { number = rw (le-ltb work work_limit enough, records.is); good = record { enough = enough; records = records } }

-- nothing is refused as it is said
pub told_as : {A : Type 0} {x e : Refusal} (r : Option A) → Err x ≡ ok_or r e → r ≡ None → x ≡ e
told_as None p q = cc
told_as (Some a) p q = cc

-- a refusal is told, and of the streams nothing
refused_as : {table : List ℕ} {work : ℕ} {a b : Option Found} {starts : List ℕ} {e : Refusal} → inputs_refusal work (table_of table) a b ≡ number_of e
    → Met table work a b starts (Err e)
refused_as is = record { number = sym is; good = tt }

begin_refused : (a b : Option Found) (k : ℕ) → 1 ≤ k → (p : Bool) (t : Maybe Table) → k ≡ (when p then 1 else unread t)
    → (when p then 1 else table_refusal t a b) ≡ k
unfolding when◌then◌else◌
begin_refused a b = early (λ p t k. (when p then 1 else table_refusal t a b) ≡ k) (λ t. refl) refl

pub meets_table : {table : List ℕ} {work : ℕ} {starts : List ℕ} {e : Refusal} → TableMet table work starts (Err e) → (a b : Option Found) → Met table work a b starts (Err e)
meets_table {table} {work} {starts} {e} met a b =
    refused_as (begin_refused a b (number_of e) (some_number e) (ltb work work_limit) (table_of table) met.number)

module _ {table starts : List ℕ} {work k : ℕ} (t : Begun table work starts k) where
  with_table_lem : (a b : Option Found) → inputs_refusal work (table_of table) a b ≡ streams_refusal k a b
  unfolding when◌then◌else◌
  with_table_lem a b = rw (le-ltb work work_limit t.enough, t.records.is, t.records.count)

module _ {table starts : List ℕ} {work k : ℕ} (t : Begun table work starts k) {a b : Option Found} where
  pub meets_3 : a ≡ None → Met table work a b starts (Err BadFirst)
  meets_3 first = refused_as (with_table_lem t a b ∙ rw first)

  module _ {f : Found} (first : a ≡ Some f) where
    pub meets_4 : b ≡ None → Met table work a b starts (Err BadSecond)
    meets_4 second = refused_as (with_table_lem t a b ∙ rw (first, second))

    module _ {g : Found} (second : b ≡ Some g) where
      pub meets_5 : k < max f.types g.types → Met table work a b starts (Err UnknownType)
      unfolding when◌then◌else◌
      meets_5 unknown = refused_as (with_table_lem t a b ∙ rw (first, second, lt-ltb k (max f.types g.types) unknown))

      module _ (known : max f.types g.types ≤ k) where
        pub meets_7 : node_limit < f.nodes + g.nodes → Met table work a b starts (Err ManyNodes)
        unfolding when◌then◌else◌
        meets_7 many = refused_as (with_table_lem t a b ∙ rw (first, second, le-ltb k (max f.types g.types) known, lt-ltb node_limit (f.nodes + g.nodes) many))

        pub meets_none : f.nodes + g.nodes ≤ node_limit → Met table work a b starts (Ok (record { first = f.nodes; second = g.nodes }))
        unfolding when◌then◌else◌
        meets_none few = record {
          number = sym (with_table_lem t a b ∙ rw (first, second, le-ltb k (max f.types g.types) known, le-ltb node_limit (f.nodes + g.nodes) few));
          good = record {
            types = k;
            begun = t;
            first_types = f.types;
            first = first;
            first_known = omega arith;
            second_types = g.types;
            second = second;
            second_known = omega arith;
            few = few;
          };
        }
