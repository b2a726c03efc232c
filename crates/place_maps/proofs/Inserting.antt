-- Between entries below it and entries above it b is inserted as one more, in place of the one next to it that stands at its offset:
-- offsets ascend, so at most one does.
-- Assumes nothing.
use Prim.Native.Nat.{ℕ, suc, ◌<◌}
use mathlib.Core.Path.{◌≡◌, refl, sym, ap, ◌∙◌}
use native.Mathlib.Omega.{arith}
use native.Mathlib.Decide.{ℕ_discrete}
use borrow.Author.Tests.{lt-ltb, le-ltb, eq-eqb, ne_eqb}
use Rattle.definitions.specs.If.{when◌then◌else◌}
use Rattle.definitions.specs.Usage.{Usage, Entries, none, entry, ◌<+>◌}
use Rattle.definitions.specs.Place.{insert}
use Rattle.definitions.specs.Sound.{Ascends}
use Rattle.definitions.proofs.Storable.{ascends_back}
use Rattle.record_links.specs.Rows.{onto}
use Rattle.record_links.proofs.Entries.{append_assoc, rev_app}
use Rattle.place_states.specs.Continuation.{UpTo, FromOn}
use Rattle.place_maps.specs.Joining.{without}
use Rattle.place_maps.proofs.Entries.{Under, under_of, under_one_more, upto_last}

pub without_same : (o : ℕ) (u : Usage) (es : Entries) → without o (entry o u es) ≡ es
unfolding without when◌then◌else◌
without_same o u es = rw (eq-eqb o o refl)

pub without_other : (o o' : ℕ) (u : Usage) (es : Entries) → (o' ≡ o → ⊥) → without o (entry o' u es) ≡ entry o' u es
unfolding without when◌then◌else◌
without_other o o' u es ne = rw (ne_eqb o' o ne)

module _ (d : ℕ) (b : Usage) where
  insert_behind : (es fs : Entries) → Under d es → insert d b (es <+> fs) ≡ es <+> insert d b fs
  unfolding when◌then◌else◌
  insert_behind none fs h = refl
  insert_behind (entry o u es) fs h = rw (le-ltb d o (omega arith), ne_eqb d o (omega arith)) (ap (entry o u) (insert_behind es fs h.1))

  insert_at : (u : Usage) (es : Entries) → insert d b (entry d u es) ≡ entry d b es
  unfolding when◌then◌else◌
  insert_at u es = rw (le-ltb d d (omega arith), eq-eqb d d refl)

  insert_first : (es : Entries) → FromOn d es → insert d b es ≡ entry d b (without d es)
  unfolding when◌then◌else◌ without
  insert_first none h = refl
  insert_first (entry o u es) h = elim (ℕ_discrete o d) [
    | yes e ↦ rw e (insert_at u es ∙ ap (entry d b) (sym (without_same d u es)))
    | no e ↦ let lt : d < o = omega arith in rw (lt-ltb d o lt) (ap (entry d b) (sym (without_other d o u es e)))
  ]

  -- those from the one above d on
  without_above : (k p : ℕ) (es : Entries) → d < p → Ascends k p es → without d es ≡ es
  unfolding without
  without_above k p none lt c = refl
  without_above k p (entry o u es) lt c = without_other d o u es (omega arith)

  -- es are told from the highest down
  pub insert_onto : (k : ℕ) (es fs : Entries) → Ascends k 0 (onto es none <+> fs) → UpTo d (onto es none) → FromOn d fs
      → insert d b (onto es none <+> fs) ≡ onto (without d es) (entry d b (without d fs))
  unfolding onto without
  insert_onto k none fs c up from = insert_first fs from
  insert_onto k (entry o u es) fs c up from = elim (ℕ_discrete o d) [
    | yes e ↦ at e
    | no e ↦ below e
  ]
    where
      low : Entries
      low = onto es none

      is : onto es (entry o u none) ≡ low <+> entry o u none
      is = rev_app es (entry o u none)

      all : onto es (entry o u none) <+> fs ≡ low <+> entry o u fs
      all = ap (λ x. x <+> fs) is ∙ append_assoc low (entry o u none) fs

      ascends : Ascends k 0 (low <+> entry o u fs)
      ascends = rw all at c

      under : Under o low
      under = under_of k low o u fs 0 ascends

      at : o ≡ d → insert d b (onto es (entry o u none) <+> fs) ≡ onto (without d (entry o u es)) (entry d b (without d fs))
      at e =
          ap (insert d b) all
          ∙ rw e (insert_behind low (entry d u fs) (rw e at under)
          ∙ ap (λ x. low <+> x) (insert_at u fs ∙ ap (entry d b) (sym (without_above k (suc d) fs (omega arith) (rw e at (ascends_back k low (entry o u fs) 0 ascends).3))))
          ∙ sym (rev_app es (entry d b (without d fs)))
          ∙ ap (λ x. onto x (entry d b (without d fs))) (sym (without_same d u es)))

      below : (o ≡ d → ⊥) → insert d b (onto es (entry o u none) <+> fs) ≡ onto (without d (entry o u es)) (entry d b (without d fs))
      below ne =
          let lt : o < d = omega (arith, upto_last low o d u (rw is at up)) in
          insert_behind (onto es (entry o u none)) fs (rw is (under_one_more low o d u under lt))
          ∙ ap (λ x. onto es (entry o u none) <+> x) (insert_first fs from)
          ∙ sym (rev_app (entry o u es) (entry d b (without d fs)))
          ∙ ap (λ x. onto x (entry d b (without d fs))) (sym (without_other d o u es ne))
