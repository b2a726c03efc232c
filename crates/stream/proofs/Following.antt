-- The next entry of the innermost map: its offset is above the last one, one entry fewer is left, and a map with none left is not kept.
-- Assumes nothing.
use Prim.Native.Nat.{ℕ, suc, max, ◌+◌, ◌-◌, ◌≤◌, ◌<◌}
use mathlib.Core.Path.{◌≡◌, ap, ◌∙◌}
use mathlib.Core.List.{List, ◌∷◌}
use native.Mathlib.Omega.{arith}
use Rattle.std.specs.Prelude.{Some, None}
use Rattle.definitions.specs.Usage.{nodes}
use Rattle.definitions.specs.Stream.{read_node}
use Rattle.stream.specs.Found.{type_bound}
use Rattle.stream.specs.Walk.{Level, level, owing, pending}
use Rattle.stream.specs.Window.{kept, levels, Held, Popped, Followed, Follows}
use Rattle.stream.specs.declared.maps.Maps.{Maps}
use Rattle.stream.proofs.Then.{then_same}
use Rattle.stream.proofs.Owing.{pending_shut, level_falls, level_next}

-- maps that are owed alike are alike behind a node
pending_alike : (n t : ℕ) (ls ls' : List Level) (k : ℕ) (bs : List ℕ) → ((n t k : ℕ) (bs : List ℕ) → owing n t ls k bs ≡ owing n t ls' k bs)
    → pending n t ls k bs ≡ pending n t ls' k bs
unfolding pending
pending_alike n t ls ls' k bs same = then_same (read_node bs) λ u rest. same (n + nodes u) (max t (type_bound u)) k rest

module _ (m : Maps) (o : ℕ) (w : List ℕ) (some : 1 ≤ m.left) where
  one_more : m.left ≡ suc (m.left - 1)
  one_more = omega arith

  pub follow_falls : o ≤ m.last → Follows m o w None
  follow_falls le n t k bs rest here =
      ap (λ l. owing n t (level l (suc m.last) ∷ kept w m.outer) k bs) one_more
      ∙ level_falls n t (m.left - 1) (suc m.last) (kept w m.outer) k bs here (omega arith)

  fewer : m.last < o → Followed (levels m w) o (level (m.left - 1) (suc o) ∷ kept w m.outer)
  fewer lt =
      record {
        same = λ n t k bs rest here.
            ap (λ l. owing n t (level l (suc m.last) ∷ kept w m.outer) k bs) one_more
            ∙ level_next n t (m.left - 1) (suc m.last) (kept w m.outer) k bs here (omega arith);
        count = omega arith;
      }

  pub follow_next : m.last < o → (m.left ≡ 1 → ⊥) → (m' : Maps) → m'.left ≡ m.left - 1 → m'.last ≡ o → m'.outer ≡ m.outer → Held m w
      → Follows m o w (Some m')
  follow_next lt not m' left last outer held = (
    record { room = omega (arith, held.room); small = omega (arith, held.small); inner = λ none. absurd (not (omega arith)) },
    rw (left, last, outer) (fewer lt),
  )

  pub follow_last : m.last < o → m.left ≡ 1 → (m' : Maps) → Popped m.outer w m' → Follows m o w (Some m')
  follow_last lt one m' pop = (
    pop.held,
    record {
      same = λ n t k bs rest here.
          let none : m.left - 1 ≡ 0 = omega arith in
          (fewer lt).same n t k bs rest here
          ∙ ap (λ l. pending n t (level l (suc o) ∷ kept w m.outer) k rest) none
          ∙ pending_shut n t (suc o) (kept w m.outer) k rest
          ∙ pending_alike n t (kept w m.outer) (levels m' w) k rest pop.same;
      count = omega (arith, pop.count);
    },
  )
