-- Nodes one after the other: those that are still to be read, with the sums of those before them, tell what all of them do.
-- Assumes nothing.
use Prim.Native.Nat.{ℕ, suc, max, ◌+◌, ◌-◌, ◌≤◌, ◌<◌}
use mathlib.Core.Path.{◌≡◌, sym, ap, ◌∙◌}
use mathlib.Core.List.{List}
use native.Mathlib.Omega.{arith}
use lib.ListN.{length, drop}
use Rattle.std.specs.Prelude.{Option, Some, None}
use Rattle.definitions.specs.Usage.{Usage, nodes, nodes_of}
use Rattle.definitions.specs.Stream.{Read, broken, read, ◌then◌, read_node, read_nodes, whole}
use Rattle.stream.specs.Found.{type_bound, bound_of, NodeAt, told}
use Rattle.stream.specs.Walk.{Sum, sum}
use Rattle.stream.specs.declared.Found.{Found}
use Rattle.stream.proofs.Then.{then_same, then_then}
use Rattle.stream.proofs.Owing.{sum_is}
use Rattle.stream.proofs.Wholes.{whole_all, whole_not, told_made}

-- n nodes with types below t have been read, and k listed ones are to come
pub listed : ℕ → ℕ → ℕ → List ℕ → Read Sum
listed n t k bs = read_nodes k bs then λ us rest. read (sum (n + nodes_of us) (max t (bound_of us))) rest

listed_none : (n t : ℕ) (bs : List ℕ) → listed n t 0 bs ≡ read (sum n t) bs
unfolding listed
listed_none n t bs = sum_is bs (omega arith) (omega arith)

module _ (n t k : ℕ) (bs : List ℕ) where
  listed_broken : read_node bs ≡ broken → listed n t (suc k) bs ≡ broken
  unfolding listed
  listed_broken e = rw e

  listed_node : {u : Usage} {bs₁ : List ℕ} → read_node bs ≡ read u bs₁ → listed n t (suc k) bs ≡ listed (n + nodes u) (max t (type_bound u)) k bs₁
  unfolding listed
  listed_node {bs₁} e = rw e (then_then (read_nodes k bs₁) _ _ λ us rest. sum_is rest (omega arith) (omega arith))

-- what a sum tells
abbrev counted : Sum → ℕ
counted (sum n t) = n

abbrev bounded : Sum → ℕ
bounded (sum n t) = t

abbrev tells : Read Sum → Option Found
tells r = told counted bounded (whole r)

listed_told : (k : ℕ) (bs : List ℕ) → told nodes_of bound_of (whole (read_nodes k bs)) ≡ tells (listed 0 0 k bs)
unfolding listed
listed_told k bs =
    sym
    (ap tells (then_same (read_nodes k bs) λ us rest. sum_is rest (omega arith) (omega arith))
    ∙ told_made (λ us. sum (nodes_of us) (bound_of us)) counted bounded (read_nodes k bs))

module _ (s : List ℕ) (from count : ℕ) where
  -- `left` nodes are to come at `at`
  pub record Listing (at n t left : ℕ) : Type 0 where
    pub same : listed 0 0 count (drop from s) ≡ listed n t left (drop at s)
    pub within : at ≤ length s
    pub taken : n ≤ at

  abbrev All : Option Found → Type 0
  All r = r ≡ told nodes_of bound_of (whole (read_nodes count (drop from s)))

  module _ {at n t left : ℕ} (list : Listing at n t left) where
    as_told : {r : Read Sum} → listed n t left (drop at s) ≡ r → All (tells r)
    as_told e = sym (listed_told count (drop from s) ∙ ap tells (list.same ∙ e))

    pub list_stop : 0 < left → read_node (drop at s) ≡ broken → All None
    list_stop more e =
        let is : left ≡ suc (left - 1) = omega arith in
        as_told (ap (λ k. listed n t k (drop at s)) is ∙ listed_broken n t (left - 1) (drop at s) e)

    pub list_on : {left' : ℕ} → left ≡ suc left' → {end m b t' : ℕ} → NodeAt s at end m b → t' ≡ max t b → Listing end (n + m) t' left'
    list_on {left'} is node types =
        record {
          same =
              list.same
              ∙ rw (node.counted, types, node.bounded)
              (ap (λ k. listed n t k (drop at s)) is ∙ listed_node n t left' (drop at s) node.reads);
          within = node.within;
          taken = omega (arith, list.taken, node.taken);
        }

    done : left ≤ 0 → listed n t left (drop at s) ≡ read (sum n t) (drop at s)
    done h = let is : left ≡ 0 = omega arith in ap (λ k. listed n t k (drop at s)) is ∙ listed_none n t (drop at s)

    pub list_end : left ≤ 0 → at ≡ length s → All (Some (record { nodes = n; types = t }))
    list_end h e = rw (whole_all (sum n t) s at e) at (as_told (done h))

    pub list_left : left ≤ 0 → (at ≡ length s → ⊥) → All None
    list_left h e = rw (whole_not (sum n t) s at list.within e) at (as_told (done h))
