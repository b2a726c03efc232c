-- A node is its own part and what that opens, so what is still to be read goes on from one own part to the next. A map opens a level.
-- Assumes nothing.
use Prim.Native.Nat.{ℕ, zero, suc, max, ◌+◌}
use mathlib.Core.Path.{◌≡◌, refl, sym, ◌∙◌}
use mathlib.Core.List.{List, ◌∷◌}
use native.Mathlib.Omega.{arith}
use borrow.Author.Tests.{eq-eqb, ne_eqb}
use lib.Dec.{eqb}
use Rattle.definitions.specs.If.{when◌then◌else◌}
use Rattle.definitions.specs.Usage.{Size, Usage, map, array, nodes}
use Rattle.definitions.specs.Command.{Head}
use Rattle.definitions.specs.Stream.{Read, broken, read, ◌then◌, read_entries, read_node}
use Rattle.stream.specs.Head.{head, below}
use Rattle.stream.specs.Found.{type_bound}
use Rattle.stream.specs.Walk.{Level, level, Sum, owing, pending, entries_of, own_bound}
use Rattle.stream.proofs.Then.{then_then}
use Rattle.stream.proofs.Heads.{Own, read_head, head_own}
use Rattle.stream.proofs.Owing.{owing_is, owing_level, owing_shut}

module _ (n t : ℕ) (ls : List Level) (k : ℕ) where
  -- what is read behind a node
  abbrev on : Usage → List ℕ → Read Sum
  on u rest = owing (n + nodes u) (max t (type_bound u)) ls k rest

  -- what is read behind an own part
  abbrev behind : Head → List ℕ → Read Sum
  behind h bs =
      when eqb h.command 0x04 then pending (n + 1) (max t (own_bound h)) ls k bs
      else owing (n + 1) (max t (own_bound h)) (level (entries_of h) 0 ∷ ls) k bs

  map_step : (z : Size) (m : ℕ) (bs : List ℕ)
      → (read_entries read_node m 0 bs then λ es rest. read (map z es) rest) then on ≡ owing (n + 1) (max t 0) (level m 0 ∷ ls) k bs
  map_step z m bs =
      then_then (read_entries read_node m 0 bs) _ on (λ es rest. owing_is ls rest (omega arith) (omega arith) refl)
      ∙ sym (owing_level (n + 1) (max t 0) m 0 ls k bs)

  array_step : (z : Size) (m : ℕ) (bs : List ℕ) → (m ≡ 0 → ⊥)
      → (when eqb m 0 then broken else read_node bs then λ e rest. read (array z m e) rest) then on ≡ pending (n + 1) (max t 0) ls k bs
  unfolding when◌then◌else◌ pending
  array_step z m bs h = rw (ne_eqb m 0 h) (then_then (read_node bs) _ on λ e rest. owing_is ls rest (omega arith) (omega arith) refl)

  own_step : (c : ℕ) (z : Size) (m : ℕ) (bs : List ℕ)
      → (let h : Head = record { command = c; size = z; argument = m } in Own h → below read_node h bs then on ≡ behind h bs)
  unfolding when◌then◌else◌ entries_of own_bound
  own_step zero z m bs own = sym (owing_shut (n + 1) (max t 0) 0 ls k bs)
  own_step (suc zero) z m bs own = sym (owing_shut (n + 1) (max t (suc m)) 0 ls k bs)
  own_step (suc (suc zero)) z m bs own = sym (owing_shut (n + 1) (max t (suc m)) 0 ls k bs)
  own_step (suc (suc (suc zero))) z m bs own = map_step z m bs
  own_step (suc (suc (suc (suc zero)))) z m bs own = array_step z m bs (own.stride refl)
  own_step (suc (suc (suc (suc (suc c))))) z m bs own = absurd (omega (arith, own.known))

  module _ (bs : List ℕ) where
    pub step_stop : head bs ≡ broken → pending n t ls k bs ≡ broken
    unfolding pending
    step_stop e = rw (read_head bs, e)

    module _ (h : Head) {bs₁ : List ℕ} (e : head bs ≡ read h bs₁) where
      step : pending n t ls k bs ≡ behind h bs₁
      unfolding pending
      step = rw (read_head bs, e) (own_step h.command h.size h.argument bs₁ (head_own bs h bs₁ e))

      pub step_element : h.command ≡ 0x04 → pending n t ls k bs ≡ pending (n + 1) (max t (own_bound h)) ls k bs₁
      unfolding when◌then◌else◌
      step_element is = step ∙ rw (eq-eqb _ _ is)

      pub step_entries : (h.command ≡ 0x04 → ⊥) → pending n t ls k bs ≡ owing (n + 1) (max t (own_bound h)) (level (entries_of h) 0 ∷ ls) k bs₁
      unfolding when◌then◌else◌
      step_entries not = step ∙ rw (ne_eqb _ _ not)
