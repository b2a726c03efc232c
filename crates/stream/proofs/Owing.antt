-- What is owed is read entry by entry: those of the innermost map first, each above the last, and then those that may come in any order.
-- What reads in order also reads in any.
-- Assumes nothing.
use Prim.Native.Nat.{ℕ, suc, max, ◌+◌, ◌*◌, ◌≤◌, ◌<◌}
use mathlib.Core.Path.{◌≡◌, refl, sym, ◌∙◌}
use mathlib.Core.List.{List, [], ◌∷◌}
use native.Mathlib.Omega.{arith}
use borrow.Author.Tests.{lt-ltb, le-ltb}
use lib.ListN.{length}
use Rattle.definitions.specs.If.{when◌then◌else◌}
use Rattle.definitions.specs.Usage.{Entries, none, entry, ◌<+>◌, nodes, nodes_in}
use Rattle.definitions.specs.Stream.{Read, broken, read, ◌then◌, number, read_node, read_entries}
use Rattle.definitions.proofs.Nodes.{append_nodes}
use Rattle.stream.specs.Found.{type_bound, type_bound_in}
use Rattle.stream.specs.Walk.{each, Level, level, total, Sum, sum, owing, pending}
use Rattle.stream.proofs.Then.{never, then_same, then_then, then_reads}
use Rattle.stream.proofs.Each.{each_short, each_more, entries_loose}

bound_join : (es fs : Entries) → type_bound_in (es <+> fs) ≡ max (type_bound_in es) (type_bound_in fs)
bound_join none fs = omega arith
bound_join (entry o u es) fs = omega (arith, bound_join es fs)

pub sum_is : {n n' t t' : ℕ} (rest : List ℕ) → n ≡ n' → t ≡ t' → ◌≡◌ {A = Read Sum} (read (sum n t) rest) (read (sum n' t') rest)
sum_is rest e f = cc

pub owing_is : {n n' t t' k k' : ℕ} (ls : List Level) (bs : List ℕ) → n ≡ n' → t ≡ t' → k ≡ k' → owing n t ls k bs ≡ owing n' t' ls k' bs
owing_is ls bs e f g = cc

-- The walk begins at a node, with nothing owed, and ends where nothing is owed.

pub pending_start : (bs : List ℕ) → pending 0 0 [] 0 bs ≡ read_node bs then λ u rest. read (sum (nodes u) (type_bound u)) rest
unfolding pending owing each
pending_start bs = then_same (read_node bs) λ u rest. sum_is rest (omega arith) (omega arith)

nothing_owed : (n t : ℕ) (bs : List ℕ) → owing n t [] 0 bs ≡ read (sum n t) bs
unfolding owing each
nothing_owed n t bs = sum_is bs (omega arith) (omega arith)

-- The innermost map

pub owing_level : (n t m p : ℕ) (ls : List Level) (k : ℕ) (bs : List ℕ)
    → owing n t (level m p ∷ ls) k bs ≡ read_entries read_node m p bs then λ es rest. owing (n + nodes_in es) (max t (type_bound_in es)) ls k rest
unfolding owing
owing_level n t m p ls k bs = refl

pub owing_shut : (n t p : ℕ) (ls : List Level) (k : ℕ) (bs : List ℕ) → owing n t (level 0 p ∷ ls) k bs ≡ owing n t ls k bs
owing_shut n t p ls k bs = owing_level n t 0 p ls k bs ∙ owing_is ls bs (omega arith) (omega arith) refl

pub pending_shut : (n t p : ℕ) (ls : List Level) (k : ℕ) (bs : List ℕ) → pending n t (level 0 p ∷ ls) k bs ≡ pending n t ls k bs
unfolding pending
pending_shut n t p ls k bs = then_same (read_node bs) λ u rest. owing_shut (n + nodes u) (max t (type_bound u)) p ls k rest

module _ (n t m p : ℕ) (ls : List Level) (k : ℕ) (bs : List ℕ) {o : ℕ} {bs₁ : List ℕ} (here : number 4 bs ≡ read o bs₁) where
  pub level_falls : o < p → owing n t (level (suc m) p ∷ ls) k bs ≡ broken
  unfolding when◌then◌else◌
  level_falls lt = owing_level n t (suc m) p ls k bs ∙ rw (here, lt-ltb o p lt)

  pub level_next : p ≤ o → owing n t (level (suc m) p ∷ ls) k bs ≡ pending n t (level m (suc o) ∷ ls) k bs₁
  unfolding when◌then◌else◌ pending
  level_next le =
      owing_level n t (suc m) p ls k bs
      ∙ rw (here, le-ltb o p le)
      (then_then (read_node bs₁) _ _ λ u bs₂.
      then_then (read_entries read_node m (suc o) bs₂) _ _ (λ es rest. owing_is ls rest (omega arith) (omega arith) refl)
      ∙ sym (owing_level (n + nodes u) (max t (type_bound u)) m (suc o) ls k bs₂))

-- Entries in any order

owing_more : (n t m k : ℕ) (bs : List ℕ) → owing n t [] (m + k) bs ≡ each m bs then λ es bs₁. owing (n + nodes_in es) (max t (type_bound_in es)) [] k bs₁
unfolding owing
owing_more n t m k bs =
    rw (each_more m k bs)
    (then_then (each m bs) _ _ λ es bs₁.
    then_then (each k bs₁) _ _ λ fs rest.
    sum_is rest (omega (arith, append_nodes es fs)) (omega (arith, bound_join es fs)))

-- an entry is its offset and a node
pub owing_entry : (n t k : ℕ) (bs : List ℕ) {o : ℕ} {bs₁ : List ℕ} → number 4 bs ≡ read o bs₁ → owing n t [] (suc k) bs ≡ pending n t [] k bs₁
unfolding owing pending each
owing_entry n t k bs {bs₁} e =
    rw e
    (then_then (read_node bs₁) _ _ λ u bs₂.
    then_then (each k bs₂) _ _ λ es rest.
    sum_is rest (omega arith) (omega arith))

pub owing_loose : (n t : ℕ) (ls : List Level) (k : ℕ) (bs : List ℕ) {x : Sum} {rest : List ℕ} → owing n t ls k bs ≡ read x rest
    → owing n t [] (total ls + k) bs ≡ read x rest
owing_loose n t [] k bs e = owing_is [] bs refl refl (omega arith) ∙ e
owing_loose n t (level m p ∷ ls) k bs e =
    let a = then_reads (read_entries read_node m p bs) (sym (owing_level n t m p ls k bs) ∙ e) in
    owing_is [] bs refl refl (omega arith)
    ∙ owing_more n t m (total ls + k) bs
    ∙ rw (entries_loose m p bs a.2) (owing_loose (n + nodes_in a.0) (max t (type_bound_in a.0)) ls k a.1 a.3)

pub pending_loose : (n t : ℕ) (ls : List Level) (k : ℕ) (bs : List ℕ) {x : Sum} {rest : List ℕ} → pending n t ls k bs ≡ read x rest
    → pending n t [] (total ls + k) bs ≡ read x rest
unfolding pending
pending_loose n t ls k bs e =
    let a = then_reads (read_node bs) e in
    rw a.2 (owing_loose (n + nodes a.0) (max t (type_bound a.0)) ls k a.1 a.3)

few : (n t k : ℕ) (bs : List ℕ) → length bs < 4 * k → owing n t [] k bs ≡ broken
unfolding owing
few n t k bs h = rw (each_short k bs h)

pub owing_short : (n t : ℕ) (ls : List Level) (k : ℕ) (bs : List ℕ) → length bs < 4 * (total ls + k) → owing n t ls k bs ≡ broken
owing_short n t ls k bs h = go (owing n t ls k bs) refl
  where
    go : (r : Read Sum) → owing n t ls k bs ≡ r → r ≡ broken
    go broken e = refl
    go (read x rest) e = never (sym (few n t (total ls + k) bs h) ∙ owing_loose n t ls k bs e)

pub owing_none : (n t : ℕ) (ls : List Level) (k : ℕ) (bs : List ℕ) → total ls + k ≡ 0 → owing n t ls k bs ≡ read (sum n t) bs
owing_none n t [] k bs e = owing_is [] bs refl refl (omega arith) ∙ nothing_owed n t bs
owing_none n t (level m p ∷ ls) k bs e =
    let none : m ≡ 0 = omega arith in
    rw none (owing_shut n t p ls k bs) ∙ owing_none n t ls k bs (omega arith)
