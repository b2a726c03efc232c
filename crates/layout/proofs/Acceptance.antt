-- A table is read one record at a time, behind those that stand already; each new one is put at the end of the table, and where
-- it starts at the end of the starts.
-- Assumes nothing.
use Prim.Native.Nat.{ℕ, suc, ◌+◌, ◌*◌, ◌-◌, ◌≤◌, ◌<◌}
use native.Mathlib.Omega.{arith}
use native.Mathlib.Decide.{dec_lt}
use mathlib.Core.Path.{◌≡◌, refl, ap, sym, ◌∙◌}
use mathlib.Core.Bool.{Bool, true, false}
use mathlib.Core.List.{List, [], ◌∷◌, ◌++◌}
use mathlib.Core.Option.{none as nothing}
use lib.ListN.{length, get_or, set, take, drop, length-append, length-set, length-take, get_or-append, drop_of_length-le}
use lib.Seq.{take-take, take-append-le, take_at, get_or_at, get_or-take, length-take-le, drop-cons}
use Rattle.std.proofs.lemmas.List.{take_more_set}
use borrow.Author.Tests.{lt-ltb, le-ltb}
use Rattle.std.specs.Prelude.{Some, None}
use Rattle.definitions.specs.If.{when◌then◌else◌}
use Rattle.definitions.specs.Stream.{broken, read}
use Rattle.definitions.specs.Table.{Table as Layouts, TypeLayout as Layout, failed, read_layout, read_records, read_table, admitted, table_of}
use Rattle.numbers.proofs.Numbers.{number_at_lem, number_short}
use Rattle.layout.specs.Bytes.{record_count}
use Rattle.layout.specs.Values.{Ended}
use Rattle.layout.specs.Located.{AllLocated, Prefix, Admitted, Room, Holds, Found, Accepted}
use Rattle.layout.specs.declared.table.Table.{Table}

-- One record more

-- the records ls stand in each table that holds the first n starts
abbrev pub AllHeld : List ℕ → List ℕ → ℕ → Layouts → Type 0
AllHeld s starts n ls = (t : Table) → Holds t s starts n → AllLocated t ls

-- a table has a place for each of the first n records, where there are so many
enough : {t : Table} {s : List ℕ} (starts : List ℕ) (n : ℕ) → Holds t s starts n → n ≤ length starts → n ≤ length t.starts.now
enough {t} starts n h r = let e = ap length h.first in omega (arith, length-take n t.starts.now, length-take n starts)

module _ {t : Table} {s : List ℕ} (starts : List ℕ) (n at : ℕ) (h : Holds t s (set starts n at) (n + 1)) (r : n < length starts) where
  first_is : take (n + 1) t.starts.now ≡ take n starts ++ at ∷ []
  first_is = h.first ∙ take_more_set starts n at r

  fewer : Holds t s starts n
  fewer = record {
    bytes = h.bytes;
    first =
        sym (take-take n (n + 1) t.starts.now (omega arith)) ∙ ap (take n) first_is
        ∙ take_at (take n starts) (at ∷ []) n (length-take-le n starts (omega arith));
  }

  last_place : get_or t.starts.now n 0 ≡ at
  last_place =
      sym (get_or-take (n + 1) t.starts.now n 0 (omega arith)) ∙ ap (λ (x : List ℕ). get_or x n 0) first_is
      ∙ get_or_at (take n starts) at [] 0 n (length-take-le n starts (omega arith))

one_more : {s starts : List ℕ} {n : ℕ} {ls : Layouts} (l : Layout) (at : ℕ) (rest : List ℕ) → length ls ≡ n → AllHeld s starts n ls → n < length starts →
    read_layout (drop at s) ≡ read l rest → admitted ls l ≡ true → AllHeld s (set starts n at) (n + 1) (ls ++ l ∷ [])
one_more {s} {starts} {n} {ls} l at rest c st r e a t h ty u =
    elim (dec_lt ty n) [
      | yes v ↦
          let p = st t (fewer starts n at h r) ty (omega arith) in
          let q : get_or (ls ++ l ∷ []) ty failed ≡ get_or ls ty failed = get_or-append ls (l ∷ []) failed ty (omega arith) in
          record {
            kept = p.kept;
            rest = p.rest;
            stands = rw q p.stands;
            admits = rw (q, take-append-le ty ls (l ∷ []) (omega arith)) p.admits;
          }
      | no v ↦
          let z : ty ≡ n = omega (arith, simp length-append at u) in
          let q : get_or (ls ++ l ∷ []) ty failed ≡ l = get_or_at ls l [] failed ty (omega arith) in
          let room = enough (set starts n at) (n + 1) h (omega (arith, length-set starts n at)) in
          record {
            kept = omega arith;
            rest = rest;
            stands = rw (q, z, last_place starts n at h r, h.bytes) e;
            admits = rw (q, take_at ls (l ∷ []) ty (omega arith)) a;
          }
    ]

-- What is left to be read behind n records

pub record Reading (s starts : List ℕ) (count at n : ℕ) : Type 0 where
  pub layouts : Layouts
  pub counted : length layouts ≡ n
  pub stand : AllHeld s starts n layouts
  pub within : n ≤ count
  pub limit : count ≤ 1024
  pub room : count ≤ length starts
  pub inside : at ≤ length s
  pub near : at ≤ 2 + n * 523
  pub is : read_table s ≡ read_records (count - n) layouts (drop at s)

-- What is told

module _ {s starts : List ℕ} where
  pub refuses : table_of s ≡ nothing → Accepted s None starts
  refuses e = record { refused = λ n. e; found = λ n y. cc }

  pub accepts : {n : ℕ} → Found s starts n → Accepted s (Some n) starts
  accepts f = record { refused = λ n. cc; found = λ n y. let z : n ≡ _ = cc in rw z f }

refused : (s : List ℕ) → read_table s ≡ broken → table_of s ≡ nothing
unfolding table_of
refused s e = rw e

pub no_count : (s : List ℕ) → length s < 2 → table_of s ≡ nothing
no_count s h = refused s (rw (number_short 2 s h))

pub many_records : (s : List ℕ) (count : ℕ) → 2 ≤ length s → count ≡ record_count s → 1024 < count → table_of s ≡ nothing
unfolding when◌then◌else◌
many_records s count h e m = refused s (rw (number_at_lem 2 s 0 2 refl h, ← e, lt-ltb 1024 count m))

pub first_record : (s starts : List ℕ) (count : ℕ) → Room s starts → 2 ≤ length s → count ≡ record_count s → count ≤ 1024 → Reading s starts count 2 0
unfolding when◌then◌else◌
first_record s starts count w h e m =
    let z : count - 0 ≡ count = omega arith in
    record {
      layouts = [];
      counted = refl;
      stand = λ t x ty l. absurd (omega arith);
      within = omega arith;
      limit = m;
      room = omega (arith, w (omega arith));
      inside = h;
      near = omega arith;
      is = rw (number_at_lem 2 s 0 2 refl h, ← e, le-ltb 1024 count m, z);
    }

module _ {s starts : List ℕ} {count at n : ℕ} (h : Reading s starts count at n) where
  -- the table of the records so far
  module _ {t : Table} (l : n < count) (b : t.bytes.now ≡ s) (p : t.starts.now ≡ take n starts) where
    so_far : Prefix t h.layouts
    so_far =
        let k = length-take-le n starts (omega (arith, h.room)) in
        let w : Holds t s starts n = record { bytes = b; first = rw p (take-take n n starts (omega arith)) } in
        record { count = rw p (omega (arith, h.counted)); placed = h.stand t w }

  -- the next one is read, whatever it is
  module _ (l : n < count) where
    turn : read_table s ≡ read_records (suc (count - (n + 1))) h.layouts (drop at s)
    turn = let z : count - n ≡ suc (count - (n + 1)) = omega arith in rw (h.is, z)

    pub no_record : read_layout (drop at s) ≡ broken → table_of s ≡ nothing
    no_record b = refused s (rw (turn, b))

    module _ {end : ℕ} (w : Ended s at end) {t : Table} {b : Bool} (bs : t.bytes.now ≡ s) (p : t.starts.now ≡ take n starts) (a : Admitted t at b) where
      judged : admitted h.layouts w.layout ≡ b
      judged = sym (a.is h.layouts (so_far l bs p) w.layout (drop end s) (ap (λ (x : List ℕ). read_layout (drop at x)) bs ∙ w.stands))

      pub not_admitted : b ≡ false → table_of s ≡ nothing
      unfolding when◌then◌else◌
      not_admitted f = refused s (rw (turn, w.stands, judged ∙ f))

      pub next_record : b ≡ true → Reading s (set starts n at) count end (n + 1)
      unfolding when◌then◌else◌
      next_record f = record {
        layouts = h.layouts ++ w.layout ∷ [];
        counted = rw length-append (omega (arith, h.counted));
        stand = one_more w.layout at _ h.counted h.stand (omega (arith, h.room)) w.stands (judged ∙ f);
        within = omega arith;
        limit = h.limit;
        room = rw (length-set starts n at) h.room;
        inside = w.within;
        near = omega arith;
        is = rw (turn, w.stands, judged ∙ f);
      }

  module _ (l : count ≤ n) where
    pub left_over : at < length s → table_of s ≡ nothing
    unfolding table_of
    left_over m = let z : count - n ≡ 0 = omega arith in rw (h.is, z, drop-cons s at 0 m)

    pub found : length s ≤ at → Found s starts n
    unfolding table_of
    found m =
        let z : count - n ≡ 0 = omega arith in
        record {
          layouts = h.layouts;
          is = rw (h.is, z, drop_of_length-le s {i = at} m);
          count = h.counted;
          room = omega (arith, h.room);
          placed = h.stand;
        }
