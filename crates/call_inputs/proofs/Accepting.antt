-- What a call of two streams comes to, by what was met before anything is placed: the refusal, or what it goes on with. Each stream
-- has its measures, the nodes and a bound on the types, which are all that was told of it.
-- Assumes nothing.
use Prim.Native.Nat.{ℕ, max, ◌+◌, ◌≤◌}
use mathlib.Core.Path.{◌≡◌, refl, sym, ap, fun_ext, ◌∙◌}
use mathlib.Core.Bool.{Bool, true, false, ◌&&◌}
use mathlib.Core.List.{List}
use mathlib.Core.Option.{Option as Maybe, none as nothing, some}
use native.Mathlib.Omega.{arith}
use borrow.Author.Tests.{ltb-true, ltb-false, le-leb, lt-leb}
use lib.Dec.{ltb, leb}
use lib.ListN.{length}
use Rattle.std.specs.Prelude.{Option, Some, Err}
use Rattle.std.proofs.lemmas.Option.{same_Some}
use Rattle.definitions.specs.If.{when◌then◌else◌}
use Rattle.definitions.specs.Limits.{node_limit, work_limit}
use Rattle.definitions.specs.Table.{Table, table_of}
use Rattle.definitions.specs.Place.{Result, refused}
use Rattle.definitions.specs.Calls.{with_table, given, checked}
use Rattle.stream.specs.Found.{told}
use Rattle.stream.specs.declared.Found.{Found}
use Rattle.call_answers.specs.Answers.{number_of}
use Rattle.call_answers.specs.declared.Refusal.{Refusal}
use Rattle.call_answers.proofs.Giving.{some_number}
use Rattle.call_inputs.specs.Inputs.{streams_refusal, table_refusal, Good, Met}
use Rattle.call_inputs.specs.declared.Nodes.{Nodes}
use Rattle.call_inputs.proofs.Types.{both_within}
use Rattle.call_inputs.proofs.Refusals.{short_work, bad_table, table_read, good_table, unknown_type, many_nodes, few_nodes}

-- 5 and 7 as the numbers say

abbrev numbers_refusal : Bool → Bool → ℕ
numbers_refusal unknown many = when unknown then 5 else when many then 7 else 0

numbers : {C : Type 0} (bound types n : ℕ) (r : Result C) (p : Bool) → ltb types bound ≡ p → (q : Bool) → ltb node_limit n ≡ q
    → (numbers_refusal p q ≡ 0 → ⊥) → checked (leb bound types) n r ≡ refused (numbers_refusal p q)
unfolding when◌then◌else◌
numbers bound types n r true e q f not0 = unknown_type (leb bound types) n r (lt-leb bound types (ltb-true types bound e))
numbers bound types n r false e true f not0 = many_nodes (leb bound types) n r (le-leb bound types (ltb-false types bound e)) (ltb-true node_limit n f)
numbers bound types n r false e false f not0 = absurd (not0 refl)

-- what was told of each stream, where it was something
told_some : {A : Type 0} {n k : A → ℕ} {f : Found} (x : Maybe A) → told n k x ≡ Some f → (a : A) × (x ≡ some a) × (f.nodes ≡ n a) × (f.types ≡ k a)
told_some nothing e = let z : ◌≡◌ {A = ℕ} 0 1 = cc in absurd (omega arith)
told_some (some a) e =
    let is = same_Some _ _ e in
    (a, refl, sym (ap (λ (f : Found). f.nodes) is), sym (ap (λ (f : Found). f.types) is))

module _ {A B C : Type 0} (n k : A → ℕ) (m l : B → ℕ) (next : Table → A → B → Result C) where
  abbrev pub body : Maybe A → Maybe B → Table → Result C
  body x y t =
      given 3 x λ a.
      given 4 y λ b.
      checked (leb (k a) (length t) && leb (l b) (length t)) (n a + m b) (next t a b)

  of_streams : (t : Table) (x : Maybe A) (y : Maybe B) → (streams_refusal (length t) (told n k x) (told m l y) ≡ 0 → ⊥)
      → body x y t ≡ refused (streams_refusal (length t) (told n k x) (told m l y))
  of_streams t nothing y not0 = refl
  of_streams t (some a) nothing not0 = refl
  of_streams t (some a) (some b) not0 =
      rw (both_within (k a) (l b) (length t))
      (numbers (max (k a) (l b)) (length t) (n a + m b) (next t a b) (ltb (length t) (max (k a) (l b))) refl (ltb node_limit (n a + m b)) refl not0)

  accepted : (t : Table) {x : Maybe A} {y : Maybe B} {a : A} {b : B} → x ≡ some a → y ≡ some b → k a ≤ length t → l b ≤ length t
      → n a + m b ≤ node_limit → body x y t ≡ next t a b
  accepted t {x} {y} {a} {b} e f a-known b-known few =
      rw (e, f, both_within (k a) (l b) (length t))
      (few_nodes _ (n a + m b) _ (le-leb (max (k a) (l b)) (length t) (omega arith)) few)

  module _ (table : List ℕ) (work : ℕ) (x : Maybe A) (y : Maybe B) where
    of_table : (t : Maybe Table) → table_of table ≡ t → work_limit ≤ work → (table_refusal t (told n k x) (told m l y) ≡ 0 → ⊥)
        → with_table work table (body x y) ≡ refused (table_refusal t (told n k x) (told m l y))
    of_table nothing e enough not0 = bad_table (body x y) work table enough e
    of_table (some t) e enough not0 = table_read (body x y) work table enough e ∙ of_streams t x y not0

    of_work : (p : Bool) → ltb work work_limit ≡ p → ((when p then 1 else table_refusal (table_of table) (told n k x) (told m l y)) ≡ 0 → ⊥)
        → with_table work table (body x y) ≡ refused (when p then 1 else table_refusal (table_of table) (told n k x) (told m l y))
    unfolding when◌then◌else◌
    of_work true e not0 = short_work (body x y) work table (ltb-true work work_limit e)
    of_work false e not0 = of_table (table_of table) refl (ltb-false work work_limit e) not0

    pub refused_by : {starts : List ℕ} {e : Refusal} → Met table work (told n k x) (told m l y) starts (Err e)
        → with_table work table (body x y) ≡ refused (number_of e)
    refused_by {starts} {e} met =
        rw met.number (of_work (ltb work work_limit) refl (λ none. absurd (omega (arith, some_number e, met.number, none))))

    -- what was read, and what the call goes on with
    pub record Going (t : Table) (p q : ℕ) : Type 0 where
      pub first : A
      pub second : B
      pub first_is : x ≡ some first
      pub second_is : y ≡ some second
      pub first_nodes : p ≡ n first
      pub second_nodes : q ≡ m second
      pub first_known : k first ≤ length t
      pub second_known : l second ≤ length t
      pub goes : with_table work table (body x y) ≡ next t first second

    pub goes_on : {starts : List ℕ} {both : Nodes} (good : Good table work (told n k x) (told m l y) starts both)
        → Going good.begun.records.layouts both.first both.second
    goes_on good =
        let a = told_some x good.first in
        let b = told_some y good.second in
        let begun = good.begun in
        let layouts = begun.records.layouts in
        let left : k a.0 ≤ length layouts = omega (arith, a.3, good.first_known, begun.records.count) in
        let right : l b.0 ≤ length layouts = omega (arith, b.3, good.second_known, begun.records.count) in
        record {
          first = a.0;
          second = b.0;
          first_is = a.1;
          second_is = b.1;
          first_nodes = a.2;
          second_nodes = b.2;
          first_known = left;
          second_known = right;
          goes = good_table (body x y) begun ∙ accepted layouts a.1 b.1 left right (omega (arith, a.2, b.2, good.few));
        }

-- One stream is one of two, of which nothing is asked of the other

abbrev pub none_told : Option Found
none_told = Some (record { nodes = 0; types = 0 })

abbrev pub nothing_more : Unit {0} → ℕ
nothing_more u = 0

abbrev pub alone : {A C : Type 0} → (Table → A → Result C) → Table → A → Unit {0} → Result C
alone next t a u = next t a

module _ {A C : Type 0} (n k : A → ℕ) (next : Table → A → Result C) where
  abbrev one_body : Maybe A → Table → Result C
  one_body x = body n k nothing_more nothing_more (alone next) x (some tt)

  -- the types are in the table where their bound is
  pub as_two : (known : Table → A → Bool) → ((t : Table) (a : A) → known t a ≡ leb (k a) (length t)) → (table : List ℕ) (work : ℕ) (x : Maybe A)
      → with_table work table (λ t. given 3 x λ a. checked (known t a) (n a) (next t a)) ≡ with_table work table (one_body x)
  as_two known bounded table work x = ap (with_table work table) (fun_ext (each x))
    where
      each : (x : Maybe A) (t : Table) → (given 3 x λ a. checked (known t a) (n a) (next t a)) ≡ one_body x t
      each nothing t = refl
      each (some a) t =
          let bound : max (k a) 0 ≡ k a = omega arith in
          let nodes : n a + 0 ≡ n a = omega arith in
          rw (bounded t a, both_within (k a) 0 (length t), bound, nodes)
