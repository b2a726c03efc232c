-- Maps are looked at to their ends by stepping over the nodes of their entries: if all that is owed reads in any order, then what is in
-- order reads alike at each offset that is passed.
-- Assumes nothing.
use Prim.Native.Nat.{ℕ, suc, max, ◌+◌, ◌-◌, ◌≤◌, ◌<◌}
use mathlib.Core.Path.{◌≡◌, refl, sym, ap, ◌∙◌}
use mathlib.Core.Bool.{true, false}
use mathlib.Core.List.{List, [], ◌∷◌}
use native.Mathlib.Omega.{arith}
use lib.ListN.{length, drop, length-drop}
use Rattle.std.specs.Prelude.{Some, None}
use Rattle.definitions.specs.Usage.{Usage, nodes}
use Rattle.definitions.specs.Stream.{Read, broken, read, number, read_node}
use Rattle.numbers.specs.Words.{word}
use Rattle.stream.specs.Found.{type_bound}
use Rattle.stream.specs.Walk.{Level, level, total, Sum, owing, pending, Skips, InOrder}
use Rattle.stream.specs.Window.{Followed}
use Rattle.stream.proofs.Then.{never, then_reads}
use Rattle.stream.proofs.Places.{offset_at}
use Rattle.stream.proofs.Owing.{owing_is, owing_entry, owing_short, pending_shut, pending_loose}

-- a node, and what is behind it
pending_node : (n t : ℕ) (ls : List Level) (k : ℕ) (bs : List ℕ) {u : Usage} {rest : List ℕ} → read_node bs ≡ read u rest
    → pending n t ls k bs ≡ owing (n + nodes u) (max t (type_bound u)) ls k rest
unfolding pending
pending_node n t ls k bs e = rw e

pending_first : (n t : ℕ) (ls : List Level) (k : ℕ) (bs : List ℕ) {x : Sum} {rest : List ℕ} → pending n t ls k bs ≡ read x rest
    → (u : Usage) × (mid : List ℕ) × (read_node bs ≡ read u mid)
unfolding pending
pending_first n t ls k bs e = let a = then_reads (read_node bs) e in (a.0, a.1, a.2)

pending_is : (n t : ℕ) (ls : List Level) {k k' : ℕ} (bs : List ℕ) → k ≡ k' → pending n t ls k bs ≡ pending n t ls k' bs
pending_is n t ls bs e = cc

module _ (s : List ℕ) (from : ℕ) (ls₀ : List Level) where
  -- what is owed, read in order and in any order
  abbrev Ordered : ℕ → ℕ → ℕ → Read Sum
  Ordered n t k = pending n t ls₀ k (drop from s)

  abbrev Loose : ℕ → ℕ → ℕ → Read Sum
  Loose n t k = pending n t [] (total ls₀ + k) (drop from s)

  -- the walk stands at `at`, and ls are the maps there
  pub record InOrderSoFar (at : ℕ) (ls : List Level) : Type 0 where
    pub on : (n t k : ℕ) (x : Sum) (rest : List ℕ) → Loose n t k ≡ read x rest
        → (m : ℕ) × (b : ℕ) × (Ordered n t k ≡ pending m b ls k (drop at s)) × (pending m b [] (total ls + k) (drop at s) ≡ read x rest)
    pub within : at ≤ length s

  -- what does not read in any order does not read in order
  unread : (n t k : ℕ) → ((x : Sum) (rest : List ℕ) → Loose n t k ≡ read x rest → Ordered n t k ≡ broken) → Ordered n t k ≡ broken
  unread n t k f = go (Ordered n t k) refl
    where
      go : (r : Read Sum) → Ordered n t k ≡ r → r ≡ broken
      go broken e = refl
      go (read x rest) e = sym e ∙ f x rest (pending_loose n t ls₀ k (drop from s) e)

  module _ {at : ℕ} {ls : List Level} (walk : InOrderSoFar at ls) where
    pub order_end : {p : ℕ} → ls ≡ level 0 p ∷ [] → InOrder s from ls₀ true
    order_end {p} is n t k = go (Loose n t k) refl
      where
        go : (r : Read Sum) → Loose n t k ≡ r → Ordered n t k ≡ r
        go broken e = unread n t k λ x rest p. never (sym e ∙ p)
        go (read x rest) e =
            let w = walk.on n t k x rest e in
            w.2
            ∙ ap (λ ms. pending w.0 w.1 ms k (drop at s)) is
            ∙ pending_shut w.0 w.1 p [] k (drop at s)
            ∙ pending_is w.0 w.1 [] (drop at s) (sym (ap (λ ms. total ms + k) is ∙ omega arith))
            ∙ w.3

    pub order_lost : Skips s at None → InOrder s from ls₀ false
    order_lost lost n t k =
        unread n t k λ x rest e.
        let w = walk.on n t k x rest e in
        let a = pending_first w.0 w.1 [] (total ls + k) (drop at s) w.3 in
        absurd (lost a.0 a.1 a.2)

    module _ {next : ℕ} (ends : Skips s at (Some next)) where
      -- behind the node
      behind : (n t k : ℕ) (x : Sum) (rest : List ℕ) → Loose n t k ≡ read x rest
          → (m : ℕ) × (b : ℕ) × (Ordered n t k ≡ owing m b ls k (drop next s)) × (owing m b [] (total ls + k) (drop next s) ≡ read x rest)
      behind n t k x rest e =
          let w = walk.on n t k x rest e in
          let a = pending_first w.0 w.1 [] (total ls + k) (drop at s) w.3 in
          let here : read_node (drop at s) ≡ read a.0 (drop next s) = rw (← ends.1 a.0 a.1 a.2) a.2 in (
            w.0 + nodes a.0,
            max w.1 (type_bound a.0),
            w.2 ∙ pending_node w.0 w.1 ls k (drop at s) here,
            sym (pending_node w.0 w.1 [] (total ls + k) (drop at s) here) ∙ w.3,
          )

      pub order_short : 1 ≤ total ls → length s - next < 4 → InOrder s from ls₀ false
      order_short some short n t k =
          unread n t k λ x rest e.
          let w = behind n t k x rest e in
          never (sym (owing_short w.0 w.1 [] (total ls + k) (drop next s) (rw length-drop (omega arith))) ∙ w.3)

      module _ (long : next + 4 ≤ length s) {o : ℕ} (offset : o ≡ word s next) where
        pub order_falls : ((n t k : ℕ) (bs rest : List ℕ) → number 4 bs ≡ read o rest → owing n t ls k bs ≡ broken) → InOrder s from ls₀ false
        order_falls falls n t k =
            unread n t k λ x rest e.
            let w = behind n t k x rest e in
            w.2 ∙ falls w.0 w.1 k (drop next s) (drop (next + 4) s) (offset_at s next long offset)

        pub settle_next : {ls' : List Level} → Followed ls o ls' → InOrderSoFar (next + 4) ls'
        settle_next {ls'} follows =
            record {
              on = λ n t k x rest e.
                  let w = behind n t k x rest e in
                  let count : total ls + k ≡ suc (total ls' + k) = omega (arith, follows.count) in (
                    w.0,
                    w.1,
                    w.2 ∙ follows.same w.0 w.1 k (drop next s) (drop (next + 4) s) (offset_at s next long offset),
                    sym (owing_is [] (drop next s) refl refl count ∙ owing_entry w.0 w.1 (total ls' + k) (drop next s) (offset_at s next long offset)) ∙ w.3,
                  );
              within = long;
            }
