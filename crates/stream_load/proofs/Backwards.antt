-- Linking from the last record to the first: what is left behind a node stands linked, one usage behind the other, and once the
-- node's own root is linked to what lies below it, so does what begins with the node.
-- Assumes nothing.
use Prim.Native.Nat.{ℕ, suc, ◌+◌, ◌-◌, ◌≤◌}
use mathlib.Core.Path.{◌≡◌, refl, ◌∙◌, subst}
use mathlib.Core.List.{List}
use native.Mathlib.Omega.{arith}
use lib.ListN.{length}
use Rattle.definitions.specs.Usage.{Usage, unused, leaf, map, array, Entries, none, nodes, nodes_in}
use Rattle.stream_load.specs.Loading.{behind, onward, Bare, FirstBare, Raw, Linked, Apart, KeptBelow, Below, Ripe, RipeAt, Tied, RawAt, AllTied}
use Rattle.stream_load.proofs.Linked.{apart_move, apart_split}
use Rattle.stream_load.proofs.Loading.{whole}
use Rattle.stream_load.proofs.Onward.{onward_nodes, no_node, Node, node}

-- whichever n nodes are loaded in s₀ from record q on: from record i on they are linked in s, and the records below are as they were
pub record Linking (s₀ s : List ℕ) (q n i : ℕ) : Type 0 where
  pub of : (u : Usage) → Raw u s₀ q → nodes u ≡ n → Apart (onward (i - q) (whole u)) s i
  pub kept : KeptBelow i s₀ s

pub linking_none : (s : List ℕ) (q n : ℕ) → Linking s s q n (q + n)
unfolding Apart
linking_none s q n = record {
  of = λ u r e.
      let all : q + n - q ≡ nodes u = omega arith in
      let no_more : onward (nodes u) (whole u) ≡ none = no_node (onward (nodes u) (whole u)) (omega (arith, onward_nodes (nodes u) (whole u) (omega arith))) in
      rw (all, no_more) tt;
  kept = λ j lt. refl;
}

pub all_tied : {s₀ s : List ℕ} {q n i : ℕ} → Linking s₀ s q n i → i ≡ q → AllTied s₀ q n s
unfolding Apart onward
all_tied {s} {q} {i} L e = record {
  linked = λ u r many.
      let none_yet : i - q ≡ 0 = omega arith in
      let stand : Apart (onward 0 (whole u)) s i = subst (λ (k : ℕ). Apart (onward k (whole u)) s i) none_yet (L.of u r many) in
      subst (λ (x : ℕ). Linked u s x 0) e stand.0;
  kept = λ j lt. L.kept j (omega arith);
}

-- what lies below a node, and what is left behind its usage
parted : (u : Usage) (es : Entries) (s : List ℕ) (p : ℕ) → Apart (behind u es) s (suc p) → Below u s (suc p) × Apart es s (p + nodes u)
unfolding Apart
parted (unused z) es s p r = let e : suc p ≡ p + 1 = omega arith in (tt, subst (Apart es s) e r)
parted (leaf z k t) es s p r = let e : suc p ≡ p + 1 = omega arith in (tt, subst (Apart es s) e r)
parted (map z fs) es s p r =
    let e : suc p + nodes_in fs ≡ p + suc (nodes_in fs) = omega arith in
    let P = apart_split fs es s (suc p) r in
    (P.0, subst (Apart es s) e P.1)
parted (array z n x) es s p r = let e : suc p + nodes x ≡ p + suc (nodes x) = omega arith in (r.0, subst (Apart es s) e r.2)

module _ {s₀ s : List ℕ} {q n i p : ℕ} (L : Linking s₀ s q n i) (last : suc p ≡ i) (le : q ≤ p) (fits : i ≤ q + n) where
  -- the node at record p
  record Ready (u : Usage) : Type 0 where
    at : Node (p - q) (whole u)
    ripe : Ripe at.usage s p at.offset
    left : Apart at.others s (p + nodes at.usage)

  ready : (u : Usage) → Raw u s₀ q → nodes u ≡ n → Ready u
  unfolding Raw
  ready u r e =
      let N : Node (p - q) (whole u) = node (p - q) (whole u) (omega arith) in
      let v : Usage = N.usage in
      let more : i - q ≡ suc (p - q) = omega arith in
      let stand : Apart (onward (suc (p - q)) (whole u)) s (suc p) = rw (← more, last) (L.of u r e) in
      let P = parted v N.others s p (subst (λ (x : Entries). Apart x s (suc p)) N.next stand) in
      let here : q + (p - q) ≡ p = omega arith in
      let first : FirstBare (onward (p - q) (whole u)) s₀ p = subst (FirstBare (onward (p - q) (whole u)) s₀) here (r (p - q) (omega arith)) in
      let bare : Bare v s₀ p N.offset = subst (λ (x : Entries). FirstBare x s₀ p) N.first first in
      record { at = N; ripe = record { root = L.kept p (omega arith) ∙ bare; below = P.0 }; left = P.1 }

  pub linking_more : {s' : List ℕ} → RawAt s₀ q n → Tied s p s' → Linking s₀ s' q n p
  unfolding Apart
  linking_more {s'} A T = record {
    of = λ u r e.
        let R = ready u r e in
        let N = R.at in
        let v : Usage = N.usage in
        let kept = T.kept v N.offset R.ripe in
        rw N.first (
          T.linked v N.offset R.ripe,
          T.next v N.offset R.ripe,
          apart_move N.others s s' (p + nodes v) (λ j a b. kept j (λ c d. omega arith)) R.left,
        );
    kept = λ j lt.
        let R = ready A.usage A.raw A.many in
        T.kept R.at.usage R.at.offset R.ripe j (λ a b. omega arith) ∙ L.kept j (omega arith);
  }

  pub ripe_at : RawAt s₀ q n → length s ≡ length s₀ → RipeAt s p
  ripe_at A len =
      let R = ready A.usage A.raw A.many in
      let N = R.at in
      record {
        usage = N.usage;
        offset = N.offset;
        ripe = R.ripe;
        here = omega (arith, A.inside);
        inside = omega (arith, A.inside, N.within, A.many);
        few = omega (arith, A.few, N.within, A.many);
      }
