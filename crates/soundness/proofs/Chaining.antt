-- The loop over a map's entries: of those that are left, from the place where the last one ended, the answer is the same.
-- Assumes nothing.
use Prim.Native.Nat.{ℕ, ◌+◌, ◌<◌, ◌≤◌}
use mathlib.Core.Path.{◌≡◌, sym, ◌∙◌}
use mathlib.Core.Bool.{Bool, true, false, ◌&&◌}
use mathlib.Core.List.{List}
use native.Mathlib.Omega.{arith}
use Rattle.std.specs.Ordering.{partial_le}
use Rattle.definitions.specs.Usage.{Size, fixed, Entries, size, nodes, nodes_in}
use Rattle.definitions.specs.Place.{ends}
use Rattle.qptr.specs.declared.MaxSize.{MaxSize}
use Rattle.qptr.specs.contracts.MaxSizePartialOrd.TheImpl.{partial_cmp-value as size_cmp}
use Rattle.qptr.specs.Values.{size_of}
use Rattle.qptr.proofs.Orders.{upto_size}
use Rattle.records.specs.Records.{size_in, offset_in}
use Rattle.records.specs.Usages.{EntriesAt}
use Rattle.records.proofs.Usages.{root_of}
use Rattle.soundness.specs.Own.{follows, following}
use Rattle.soundness.specs.Preorder.{UsageFrom, EntriesFrom, Counted, Chained}
use Rattle.soundness.proofs.Entries.{Left, First, first, none_left, first_stands, counted_nodes}

-- whichever entries stood from record `from` to `to`, some of them are left from record q on, after the place p
pub record Chaining (s : List ℕ) (from to : ℕ) (y : Size) (q : ℕ) (p : Size) : Type 0 where
  pub of : (es : Entries) → EntriesAt es s from → from + nodes_in es ≡ to → Left s q to (following p y) (following (fixed 0) y es)

pub chaining_stands : (s : List ℕ) (from to : ℕ) (y : Size) (q : ℕ) (p : Size) → EntriesFrom s from to → Chaining s from to y q p → q < to → UsageFrom s q
chaining_stands s from to y q p R C lt = first_stands (first (C.of R.entries R.stand R.upto) lt) R.inside R.few

pub chaining_done : (s : List ℕ) (from to : ℕ) (map : MaxSize) (q : ℕ) (place : MaxSize) (r : Bool) → Chaining s from to (size_of map) q (size_of place) → to ≤ q
    → r ≡ partial_le size_cmp.it place map → Chained s from to (size_of map) r
unfolding following
chaining_done s from to map q place r C le e = record { of = λ es w h. e ∙ upto_size place map ∙ sym (none_left (C.of es w h) le) }

module _ (s : List ℕ) (from to : ℕ) (y : Size) (q : ℕ) (p z : Size) (o : ℕ) (C : Chaining s from to y q p) (lt : q < to) (offset-is : o ≡ offset_in s q) (size_is : z ≡ size_in s q) where
  -- the first entry's own part is what the record says
  parts : {b : Bool} (F : First s q to (following p y) b) → b ≡ (follows p o z && following (ends o z) y F.others)
  unfolding following
  parts F =
      let root = (root_of F.usage s q F.offset F.here).1 in
      let same-offset : F.offset ≡ o = cc in
      let same_size : size F.usage ≡ z = cc in
      rw (← same-offset, ← same_size) F.same

  pub chaining_broken : follows p o z ≡ false → Chained s from to y false
  chaining_broken f = record { of = λ es w h. sym (rw f at (parts (first (C.of es w h) lt))) }

  pub chaining_next : (q' : ℕ) (p' : Size) → follows p o z ≡ true → p' ≡ ends o z → Counted s q q' → Chaining s from to y q' p'
  chaining_next q' p' f e' K = record {
    of = λ es w h.
        let F = first (C.of es w h) lt in
        let past : q + nodes F.usage ≡ q' = counted_nodes F.usage F.offset F.here K in
        record { entries = F.others; stand = rw past at F.behind; upto = omega arith; same = rw (f, ← e') at (parts F) };
  }
