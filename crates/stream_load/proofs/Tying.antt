-- Entries are linked from the first to the last: each is linked to the one behind it, which stands as it did, and the last one is
-- linked to none already.
-- Assumes nothing.
use Prim.Native.Nat.{ℕ, suc, ◌+◌, ◌*◌, ◌<◌, ◌≤◌}
use mathlib.Core.Path.{◌≡◌, refl, ap, sym, ◌∙◌}
use mathlib.Core.List.{List}
use native.Mathlib.Omega.{arith}
use lib.ListN.{length}
use Rattle.definitions.specs.Usage.{Usage, Entries, none, entry, nodes, nodes_in, count}
use Rattle.definitions.proofs.Nodes.{some_node, few_entries}
use Rattle.records.specs.Records.{next_in, count_in, Cell, cell, with_next, Set}
use Rattle.stream_load.specs.Loading.{first_of, Linked, EntriesLinked, Apart, KeptBelow, KeptOutside, EntriesOf, EntriesTied}
use Rattle.stream_load.proofs.Linked.{linked_with, apart_move, count_is}

pub first_some : (es : Entries) (q : ℕ) → 1 ≤ count es → first_of es q ≡ q
first_some none q h = absurd (omega arith)
first_some (entry o u es) q h = refl

pub no_entry : (es : Entries) → count es ≡ 0 → es ≡ none
no_entry none e = refl
no_entry (entry o u es) e = absurd (omega arith)

-- The i-th entry of es stands at record p, and the others behind it. Those in front of it are linked, and whatever changes from p on,
-- once the others are linked all are. Nothing else has changed.
pub record Tying (es : Entries) (s₀ s : List ℕ) (q p i : ℕ) : Type 0 where
  pub offset : ℕ
  pub usage : Usage
  pub others : Entries
  pub here : Linked usage s p offset
  pub next : next_in s p ≡ 0
  pub behind : Apart others s (p + nodes usage)
  pub upto : q ≤ p
  pub ends : p + (nodes usage + nodes_in others) ≡ q + nodes_in es
  pub many : i + count others ≡ count es
  pub joined : (s' : List ℕ) → KeptBelow p s s' → EntriesLinked (entry offset usage others) s' p → EntriesLinked es s' q
  pub kept : (j : ℕ) → (q ≤ j → j < p → ⊥) → cell s j ≡ cell s₀ j

module _ {es : Entries} {s₀ s : List ℕ} {q p i : ℕ} where
  tying : (left : Entries) → Apart left s p → q ≤ p → p + nodes_in left ≡ q + nodes_in es → i + count left ≡ suc (count es) → i ≤ count es
      → ((s' : List ℕ) → KeptBelow p s s' → EntriesLinked left s' p → EntriesLinked es s' q) → ((j : ℕ) → (q ≤ j → j < p → ⊥) → cell s j ≡ cell s₀ j)
      → Tying es s₀ s q p i
  unfolding Apart
  tying none stand upto ends many le joined kept = absurd (omega arith)
  tying (entry o u others) stand upto ends many le joined kept =
      record { offset = o; usage = u; others = others; here = stand.0; next = stand.1; behind = stand.2; upto = upto; ends = ends; many = omega arith; joined = joined; kept = kept }

module _ {es : Entries} {s₀ s : List ℕ} {q p i : ℕ} {s' : List ℕ} {v : ℕ} (H : Tying es s₀ s q p i) (S : Set s s' p (with_next v (cell s p))) where
  -- the entry at p is linked to v, and whatever changes behind it, it stands
  tied_here : (s'' : List ℕ) → KeptBelow (p + nodes H.usage) s' s'' → Linked H.usage s'' p H.offset × (next_in s'' p ≡ v)
  tied_here s'' K =
      let some : 1 ≤ nodes H.usage = some_node H.usage in
      let same : cell s'' p ≡ with_next v (cell s p) = K p (omega arith) ∙ S.here in
      (linked_with H.usage s s'' p H.offset (ap (with_next 0) same) (λ j a b. K j b ∙ S.others j (omega arith)) H.here, ap (λ (x : Cell). x.next) same)

  kept_tied : (j : ℕ) → (q ≤ j → j < p + nodes H.usage → ⊥) → cell s' j ≡ cell s₀ j
  kept_tied j out =
      let some : 1 ≤ nodes H.usage = some_node H.usage in
      let upto : q ≤ p = H.upto in
      S.others j (λ e. out (omega arith) (omega arith)) ∙ H.kept j (λ a b. out a (omega arith))

  tying_more : v ≡ p + nodes H.usage → i < count es → Tying es s₀ s' q v (i + 1)
  unfolding Linked
  tying_more e lt =
      let u : Usage = H.usage in
      let some : 1 ≤ nodes u = some_node u in
      rw e (tying H.others (apart_move H.others s s' (p + nodes u) (λ j a b. S.others j (omega arith)) H.behind)
      (omega (arith, H.upto)) (omega (arith, H.ends)) (omega (arith, H.many)) (omega arith)
      (λ s'' K r.
      let T = tied_here s'' K in
      H.joined s'' (λ j l. K j (omega arith) ∙ S.others j (omega arith)) (T.0, T.1 ∙ e ∙ sym (first_some H.others (p + nodes u) (omega (arith, H.many))), r))
      kept_tied)

module _ {es : Entries} {s₀ s : List ℕ} {q p i : ℕ} (H : Tying es s₀ s q p i) where
  tied_last : count es ≤ i → EntriesLinked es s q × (p + nodes H.usage ≡ q + nodes_in es)
  unfolding Linked
  tied_last le =
      let no_more : H.others ≡ none = no_entry H.others (omega (arith, H.many)) in
      (H.joined s (λ j l. refl) (rw no_more (H.here, H.next, tt)), omega (arith, H.ends, ap nodes_in no_more))

  kept_last : KeptOutside q (nodes_in es) s₀ s
  kept_last j out = H.kept j (λ a b. out a (omega (arith, H.ends)))

-- whichever k entries stand there
pub record Ties (s₀ s : List ℕ) (q k p i : ℕ) : Type 0 where
  pub of : (es : Entries) → Apart es s₀ q → count es ≡ k → Tying es s₀ s q p i

pub ties_none : {s : List ℕ} {q k : ℕ} → 1 ≤ k → Ties s s q k q 1
ties_none some = record { of = λ es A many. tying es A (omega arith) refl (omega arith) (omega arith) (λ s' K r. r) (λ j out. refl) }

module _ {s₀ s : List ℕ} {q k p i : ℕ} (T : Ties s₀ s q k p i) where
  pub ties_more : {s' : List ℕ} {m : ℕ} → i < k → m ≡ count_in s p → Set s s' p (with_next (p + m) (cell s p)) → Ties s₀ s' q k (p + m) (i + 1)
  ties_more lt e S = record {
    of = λ es A many.
        let H = T.of es A many in
        tying_more H S (omega (arith, e ∙ count_is H.usage s p H.offset H.here)) (omega arith);
  }

  module _ (E : EntriesOf s₀ q k) (len : length s ≡ length s₀) where
    this_entry : Tying E.entries s₀ s q p i
    this_entry = T.of E.entries E.stand E.many

    pub entry_inside : p * 32 + 32 ≤ length s
    entry_inside = let H = this_entry in omega (arith, some_node H.usage, H.ends, E.inside)

    pub entry_more : {m : ℕ} → m ≡ count_in s p → i < k → p + m < 65536
    entry_more e lt = let H = this_entry in omega (arith, e ∙ count_is H.usage s p H.offset H.here, H.ends, E.few, H.many, E.many, few_entries H.others)

    pub tied : {m : ℕ} → k ≤ i → m ≡ count_in s p → EntriesTied s₀ q k s (p + m)
    tied {m} over e =
        let ends : (es : Entries) → Apart es s₀ q → count es ≡ k → p + m ≡ q + nodes_in es = λ es A many.
        let H = T.of es A many in
        omega (arith, e ∙ count_is H.usage s p H.offset H.here, (tied_last H (omega arith)).1) in
        record {
          linked = λ es A many. (tied_last (T.of es A many) (omega arith)).0;
          behind = ends;
          kept = λ es A many. kept_last (T.of es A many);
          some = omega (arith, ends E.entries E.stand E.many, few_entries E.entries, E.many, E.some);
          few = omega (arith, ends E.entries E.stand E.many, E.few);
        }
