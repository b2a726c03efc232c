-- Where a walk enters an entry: of a map that was just opened, of the innermost open map, or of one that is not kept any more.
-- Assumes nothing.
use Prim.Native.Nat.{ℕ, suc, max, ◌+◌, ◌-◌, ◌≤◌, ◌<◌}
use mathlib.Core.Path.{◌≡◌, refl, sym, ◌∙◌}
use mathlib.Core.Bool.{true}
use mathlib.Core.List.{List, [], ◌∷◌}
use native.Mathlib.Omega.{arith}
use lib.ListN.{length, drop}
use Rattle.std.specs.Prelude.{Option, Some, None}
use Rattle.definitions.specs.Command.{Head}
use Rattle.definitions.specs.Stream.{Read, read}
use Rattle.numbers.specs.Words.{word}
use Rattle.stream.specs.Head.{head}
use Rattle.stream.specs.Walk.{Level, level, total, Sum, owing, ToRead, entries_of, own_bound, InOrder}
use Rattle.stream.specs.Window.{levels, Held, Pushed, Followed, Follows, Lost, Roomy, Entered, Enters}
use Rattle.stream.specs.declared.maps.Maps.{Maps}
use Rattle.stream.proofs.Places.{offset_at}
use Rattle.stream.proofs.Owing.{owing_is, owing_shut, owing_entry, pending_shut, level_next}
use Rattle.stream.proofs.Keeping.{no_levels, none_left}
use Rattle.stream.proofs.Stepping.{step_entries}

-- A map without entries may stand before the others, or be left out.

module _ {x : Read Sum} {s : List ℕ} {at owed : ℕ} {ls : List Level} {n t : ℕ} (p : ℕ) where
  pub shut : ToRead x s at owed ls n t → ToRead x s at owed (level 0 p ∷ ls) n t
  shut w = record { others = w.others; owes = omega (arith, w.owes); same = w.same ∙ sym (pending_shut n t p ls w.others (drop at s)) }

  unshut : ToRead x s at owed (level 0 p ∷ ls) n t → ToRead x s at owed ls n t
  unshut w = record { others = w.others; owes = omega (arith, w.owes); same = w.same ∙ pending_shut n t p ls w.others (drop at s) }

-- Room for one more map

module _ (s : List ℕ) (at : ℕ) (m : Maps) (w : List ℕ) where
  pub room_pushed : {w' : List ℕ} {m' : Maps} → Pushed m w w' m' → Roomy s at m w w' m'
  room_pushed {w'} {m'} pushed =
      record { room = pushed.room; empty = pushed.empty; on = λ x owed n t stands. rw (pushed.empty, pushed.same) (shut (suc m'.last) stands) }

  pub room_in_order : InOrder s at (levels m w) true → {w' : List ℕ} {m' : Maps} → m'.left ≡ 0 → m'.outer ≡ 0 → Roomy s at m w w' m'
  room_in_order settles {w'} {m'} left outer =
      record {
        room = omega arith;
        empty = left;
        on = λ x owed n t stands.
            rw (left, no_levels w' m'.outer outer)
            (shut (suc m'.last)
            (record {
              others = total (levels m w) + stands.others;
              owes = omega (arith, stands.owes);
              same = stands.same ∙ settles n t stands.others;
            }));
      }

-- The next entry

module _ (s : List ℕ) (at : ℕ) (h : Head) (end : ℕ) (part : head (drop at s) ≡ read h (drop end s)) (other : h.command ≡ 0x04 → ⊥)
    (long : end + 4 ≤ length s) {o : ℕ} (offset : o ≡ word s end) where
  module _ {x : Read Sum} {owed owing' n t : ℕ} {ls : List Level} (more : entries_of h + owed ≡ suc owing') (stands : ToRead x s at owed ls n t) where
    abbrev bound : ℕ
    bound = max t (own_bound h)

    opened : {c : ℕ} → entries_of h ≡ c → x ≡ owing (n + 1) bound (level c 0 ∷ ls) stands.others (drop end s)
    opened e = rw (← e) (stands.same ∙ step_entries n t ls stands.others (drop at s) h part other)

    -- a map was opened
    first : {c : ℕ} → entries_of h ≡ suc c → ToRead x s (end + 4) owing' (level c (suc o) ∷ ls) (n + 1) bound
    first {c} e =
        record {
          others = stands.others;
          owes = omega (arith, stands.owes);
          same = opened e ∙ level_next (n + 1) bound c 0 ls stands.others (drop end s) (offset_at s end long offset) (omega arith);
        }

    -- nothing was opened
    closed : entries_of h ≡ 0 → x ≡ owing (n + 1) bound ls stands.others (drop end s)
    closed e = opened e ∙ owing_shut (n + 1) bound 0 ls stands.others (drop end s)

    followed : entries_of h ≡ 0 → {ls' : List Level} → Followed ls o ls' → ToRead x s (end + 4) owing' ls' (n + 1) bound
    followed e follows =
        record {
          others = stands.others;
          owes = omega (arith, stands.owes, follows.count);
          same = closed e ∙ follows.same (n + 1) bound stands.others (drop end s) (drop (end + 4) s) (offset_at s end long offset);
        }

  -- no map is kept
  outside : {x : Read Sum} {owed owing' n t : ℕ} → entries_of h + owed ≡ suc owing' → ToRead x s at owed [] n t → entries_of h ≡ 0
      → ToRead x s (end + 4) owing' [] (n + 1) (max t (own_bound h))
  outside {owing'} {n} {t} more stands e =
      let one : stands.others ≡ suc owing' = omega (arith, stands.owes) in
      record {
        others = owing';
        owes = omega arith;
        same =
            closed more stands e
            ∙ owing_is [] (drop end s) refl refl one
            ∙ owing_entry (n + 1) (max t (own_bound h)) owing' (drop end s) (offset_at s end long offset);
      }

  module _ (m : Maps) (w : List ℕ) where
    pub enter_outside : Held m w → entries_of h ≡ 0 → m.left ≡ 0 → Entered s at h end m w w m
    enter_outside held e none =
        record {
          held = held;
          on = λ x owed owing' n t more stands.
              rw (none_left m w held none)
              (shut (suc m.last) (outside more (unshut (suc m.last) (rw (none_left m w held none) at stands)) e));
        }

    pub enter_next : entries_of h ≡ 0 → (r : Option Maps) → Follows m o w r → Enters s at h end m w w r
    enter_next e (Some m') follows = record { held = follows.0; on = λ x owed owing' n t more stands. followed more stands e follows.1 }
    enter_next e None falls = λ x owed owing' n t more stands.
        closed more stands e ∙ falls (n + 1) (max t (own_bound h)) stands.others (drop end s) (drop (end + 4) s) (offset_at s end long offset)

    pub enter_one : Held m w → entries_of h ≡ 1 → Entered s at h end m w w m
    enter_one held e = record { held = held; on = λ x owed owing' n t more stands. unshut (suc o) (first more stands e) }

    pub enter_map : {w' : List ℕ} {m' : Maps} → Roomy s at m w w' m' → {c : ℕ} → entries_of h ≡ c → 1 < c → c < 65536
        → (m₂ : Maps) → m₂.left ≡ c - 1 → m₂.last ≡ o → m₂.outer ≡ m'.outer → Entered s at h end m w w' m₂
    enter_map {w'} {m'} roomy {c} e some small m₂ left last outer =
        record {
          held = record { room = omega (arith, roomy.room); small = omega arith; inner = λ none. absurd (omega arith) };
          on = λ x owed owing' n t more stands.
              let around = unshut (suc m'.last) (rw roomy.empty at (roomy.on x owed n t stands)) in
              rw (left, last, outer) (first more around (omega arith));
        }

    pub enter_lost : Lost s at (levels m w) → Enters s at h end m w w None
    enter_lost lost x owed owing' n t more stands = lost x owed n t stands
