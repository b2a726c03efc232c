-- A usage is sound if each of its nodes keeps its own rules: the loop over the records takes a node, and puts what it holds in its place.
-- Assumes nothing.
use Prim.Native.Nat.{ℕ, suc, ◌+◌, ◌<◌, ◌≤◌}
use mathlib.Core.Path.{◌≡◌, refl, sym}
use mathlib.Core.Bool.{Bool, true, false, ◌&&◌, not, and_assoc, and-true}
use mathlib.Core.List.{List}
use native.Mathlib.Omega.{arith}
use native.Mathlib.Numerals.{add-one}
use borrow.Author.Tests.{not-true, not-false}
use Rattle.definitions.specs.Usage.{Size, fixed, Usage, unused, leaf, map, array, Entries, none, entry, size, nodes, nodes_in, ◌<+>◌}
use Rattle.definitions.specs.Place.{ends}
use Rattle.definitions.specs.Sound.{sound, chained}
use Rattle.definitions.proofs.Nodes.{append_nodes}
use Rattle.records.specs.Usages.{At, EntriesAt}
use Rattle.records.proofs.Usages.{one_entry, entries_join}
use Rattle.soundness.specs.Own.{follows, following, fills, own}
use Rattle.soundness.specs.Preorder.{UsageFrom, Counted, Owned, Tested}
use Rattle.soundness.proofs.Entries.{Left, First, first, none_left, first_stands, counted_nodes}

-- every one of the entries is sound
abbrev all_sound : Entries → Bool
all_sound none = true
all_sound (entry o u es) = sound u && all_sound es

append_sound : (es fs : Entries) → all_sound (es <+> fs) ≡ (all_sound es && all_sound fs)
append_sound none fs = refl
append_sound (entry o u es) fs = simp (append_sound es fs, and_assoc)

and_swap : (a b c : Bool) → (a && (b && c)) ≡ (b && (a && c))
and_swap true b c = refl
and_swap false true c = refl
and_swap false false c = refl

-- a chain's entries follow one another, and every one is sound
chained_is : (p y : Size) (es : Entries) → chained p y es ≡ (following p y es && all_sound es)
unfolding following follows
chained_is p y none = sym (and-true _)
chained_is p y (entry o u es) =
    let q : Size = ends o (size u) in
    simp (chained_is q y es, and_swap (sound u) (following q y es) (all_sound es), and_assoc)

-- a node's own rules, as `kept` says, and all that is left with what it holds in its place

abbrev kept_and : Bool → Entries → Bool
kept_and kept es = kept && all_sound es

opened : (u : Usage) (s : List ℕ) (q to o : ℕ) (es : Entries) → At u s q o → EntriesAt es s (q + nodes u) → q + nodes u + nodes_in es ≡ to → Left s (q + 1) to (kept_and (own u)) (sound u && all_sound es)
unfolding At own fills
opened (unused z) s q to o es r w e = record { entries = es; stand = w; upto = e; same = refl }
opened (leaf z k t) s q to o es r w e = record { entries = es; stand = w; upto = e; same = refl }
opened (map z fs) s q to o es r w e =
    let there : q + suc (nodes_in fs) ≡ q + 1 + nodes_in fs = omega arith in
    record {
      entries = fs <+> es;
      stand = entries_join fs es s (q + 1) (rw add-one r.1) (rw there at w);
      upto = omega (arith, append_nodes fs es);
      same = simp (chained_is (fixed 0) z fs, append_sound fs es, and_assoc);
    }
opened (array z n v) s q to o es r w e =
    let there : q + suc (nodes v) ≡ q + 1 + nodes v = omega arith in
    record { entries = entry r.1.0 v es; stand = (rw add-one r.1.1, rw there at w); upto = omega arith; same = simp and_assoc }

-- of whichever usage stands from record q to `end`, all that is left from record i on is sound exactly if it is
pub record Every (s : List ℕ) (q end i : ℕ) : Type 0 where
  pub of : (u : Usage) (o : ℕ) → At u s q o → Left s i end all_sound (sound u)

pub every_one : (s : List ℕ) (q end : ℕ) → Counted s q end → Every s q end q
every_one s q end C = record {
  of = λ u o r.
      record { entries = entry o u none; stand = one_entry o u s q r; upto = omega (arith, counted_nodes u o r C); same = sym (and-true (sound u)) };
}

pub every_stands : (s : List ℕ) (q end i : ℕ) → UsageFrom s q → Counted s q end → Every s q end i → i < end → UsageFrom s i
every_stands s q end i S C E lt = first_stands (first (E.of S.usage S.offset S.stands) lt) C.inside C.few

pub every_done : (s : List ℕ) (q end i : ℕ) → Every s q end i → end ≤ i → Tested s q true
every_done s q end i E le = record { of = λ u o r. sym (none_left (E.of u o r) le) }

module _ (s : List ℕ) (q end i : ℕ) (r : Bool) (E : Every s q end i) (lt : i < end) (O : Owned s i r) where
  open_first : {b : Bool} (F : First s i end all_sound b) → Left s (i + 1) end (kept_and r) b
  open_first F = rw (F.same, O.of F.usage F.offset F.here) (opened F.usage s i end F.offset F.others F.here F.behind F.upto)

  pub every_broken : not r ≡ true → Tested s q false
  every_broken f = record { of = λ u o w. sym (rw (not-true r f) at (open_first (first (E.of u o w) lt))).same }

  pub every_next : not r ≡ false → Every s q end (i + 1)
  every_next f = record { of = λ u o w. rw (not-false r f) at (open_first (first (E.of u o w) lt)) }
