-- The refusals that calls share, one after the other: each is answered where its test fails, and where it does not the call goes on.
-- Assumes nothing.
use Prim.Native.Nat.{ℕ, ◌<◌, ◌≤◌}
use mathlib.Core.Path.{◌≡◌, refl}
use mathlib.Core.Bool.{Bool, true, false}
use mathlib.Core.List.{List}
use mathlib.Core.Option.{Option as Maybe, none as nothing, some}
use native.Mathlib.Omega.{arith}
use borrow.Author.Tests.{lt-ltb, le-ltb}
use lib.Dec.{ltb}
use Rattle.std.specs.Prelude.{Err}
use Rattle.definitions.specs.If.{when◌then◌else◌}
use Rattle.definitions.specs.Limits.{node_limit, work_limit}
use Rattle.definitions.specs.Table.{Table, table_of}
use Rattle.definitions.specs.Place.{Result, refused}
use Rattle.definitions.specs.Calls.{given, with_table, checked}
use Rattle.call_answers.specs.Answers.{number_of}
use Rattle.call_answers.specs.declared.Refusal.{Refusal}
use Rattle.call_answers.proofs.Giving.{some_number}
use Rattle.call_inputs.specs.Inputs.{unread, Begun, TableMet}

-- 1 and 2

-- what holds where 1 is met and where 2 is met holds where either is
pub early : (P : Bool → Maybe Table → ℕ → Type 0) → ((t : Maybe Table) → P true t 1) → P false nothing 2
    → (k : ℕ) → 1 ≤ k → (p : Bool) (t : Maybe Table) → k ≡ (when p then 1 else unread t) → P p t k
unfolding when◌then◌else◌
early P short bad k at_least true t e = rw e (short t)
early P short bad k at_least false nothing e = rw e bad
early P short bad k at_least false (some t) e = absurd (omega (arith, at_least, e))

refused_begin : {A : Type 0} (next : Table → Result A) (k : ℕ) → 1 ≤ k → (p : Bool) (t : Maybe Table)
    → k ≡ (when p then 1 else unread t) → (when p then refused 1 else given 2 t next) ≡ refused k
unfolding when◌then◌else◌
refused_begin next = early (λ p t k. (when p then refused 1 else given 2 t next) ≡ refused k) (λ t. refl) refl

module _ {A : Type 0} (next : Table → Result A) where
  pub short_work : (work : ℕ) (table : List ℕ) → work < work_limit → with_table work table next ≡ refused 1
  unfolding when◌then◌else◌
  short_work work table h = rw (lt-ltb work work_limit h)

  pub bad_table : (work : ℕ) (table : List ℕ) → work_limit ≤ work → table_of table ≡ nothing → with_table work table next ≡ refused 2
  unfolding when◌then◌else◌
  bad_table work table h e = rw (le-ltb work work_limit h, e)

  pub table_read : (work : ℕ) (table : List ℕ) {t : Table} → work_limit ≤ work → table_of table ≡ some t → with_table work table next ≡ next t
  unfolding when◌then◌else◌
  table_read work table h e = rw (le-ltb work work_limit h, e)

  pub good_table : {table starts : List ℕ} {work k : ℕ} (t : Begun table work starts k) → with_table work table next ≡ next t.records.layouts
  good_table {table} {work} t = table_read work table t.enough t.records.is

  pub table_refused : {table starts : List ℕ} {work : ℕ} {e : Refusal} → TableMet table work starts (Err e) → with_table work table next ≡ refused (number_of e)
  table_refused {table} {work} {e} met =
      refused_begin next (number_of e) (some_number e) (ltb work work_limit) (table_of table) met.number

-- 5 and 7

module _ {A : Type 0} (types : Bool) (n : ℕ) (r : Result A) where
  pub unknown_type : types ≡ false → checked types n r ≡ refused 5
  unfolding when◌then◌else◌
  unknown_type e = rw e

  pub many_nodes : types ≡ true → node_limit < n → checked types n r ≡ refused 7
  unfolding when◌then◌else◌
  many_nodes e h = rw (e, lt-ltb node_limit n h)

  pub few_nodes : types ≡ true → n ≤ node_limit → checked types n r ≡ r
  unfolding when◌then◌else◌
  few_nodes e h = rw (e, le-ltb node_limit n h)
