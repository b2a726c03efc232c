-- The definition's search finds what the code's parts: it passes over those from e on, collects those that cross, and stops at the last that ends by d.
-- Assumes nothing.
use Prim.Native.Nat.{ℕ, suc, ◌≤◌}
use mathlib.Core.Path.{◌≡◌, refl, ap, ◌∙◌}
use mathlib.Core.Bool.{Bool, true, false, ◌||◌, true≢false, false≢true}
use mathlib.Core.List.{List}
use native.Mathlib.Omega.{arith}
use borrow.Author.Tests.{leb-true, le-leb, le-ltb}
use Rattle.definitions.specs.If.{when◌then◌else◌}
use Rattle.definitions.specs.Limits.{max32}
use Rattle.definitions.specs.Usage.{Size, fixed, dynamic, Usage, Entries, none, entry, size, ◌<+>◌}
use Rattle.definitions.specs.Table.{Setting}
use Rattle.definitions.specs.Place.{Placing, ends, past32, ◌≤ˢ◌, past, searching, stopped, overlap_next, overlapping, join, rebuilt, join_found}
use Rattle.definitions.specs.Sound.{Ascends}
use Rattle.definitions.proofs.Storable.{ascends_back}
use Rattle.record_links.specs.Rows.{onto}
use Rattle.record_links.proofs.Entries.{append_assoc}
use Rattle.place_search.specs.Parts.{Crossing, any_past, LastEndsBy, nothing, by, Starts, Parted}
use Rattle.place_search.specs.declared.Overlap.{Overlap}

-- each starts at e or later
abbrev pub Starting : Size → Entries → Type 0
Starting e none = Unit {0}
Starting e (entry o u es) = ((e ≤ˢ fixed o) ≡ true) × Starting e es

-- what starts at e or later, and so all above it
starting_from : (k : ℕ) (e : Size) (es : Entries) (p : ℕ) → (e ≤ˢ fixed p) ≡ true → Ascends k p es → Starting e es
starting_from k e none p h c = tt
starting_from k dynamic (entry o u es) p h c = absurd (false≢true h)
starting_from k (fixed n) (entry o u es) p h c =
    let le = leb-true n p h in
    (le-leb n o (omega arith), starting_from k (fixed n) es (suc o) (le-leb n (suc o) (omega arith)) c.3)

starting : (k : ℕ) (e : Size) (es : Entries) (p : ℕ) → Starts e es → Ascends k p es → Starting e es
starting k e none p h c = tt
starting k e (entry o u es) p h c = starting_from k e (entry o u es) o h (omega arith, c.1, c.2, c.3)

pub high_starting : (k : ℕ) {es : Entries} {r : ℕ → ℕ} {lo hi : ℕ} {s : List ℕ} {a d : ℕ} {e : Size} {b : Overlap} {c : Bool} (P : Parted es r lo hi s a d e b c) → Ascends k 0 es → Starting e P.high
high_starting k {e} P c =
    let low : Entries = onto P.low_down none in
    starting k e P.high 0 P.high_starts (ascends_back k P.mid P.high 0 (ascends_back k low (P.mid <+> P.high) 0 (rw P.is at c)))

-- what ends by d is not past 32 bits
by_fits : (d : ℕ) (z : Size) → d ≤ max32 → (z ≤ˢ fixed d) ≡ true → past32 z ≡ false
by_fits d dynamic h e = refl
by_fits d (fixed n) h e = le-ltb max32 n (omega (arith, leb-true n d e))

or_false : (a b : Bool) → (a || b) ≡ false → (a ≡ false) × (b ≡ false)
or_false true b e = absurd (true≢false e)
or_false false b e = (refl, e)

module _ (d : ℕ) (e : Size) where
  pass_over : (es : Entries) → Starting e es → overlapping d e es ≡ searching none es
  unfolding when◌then◌else◌
  pass_over none h = refl
  pass_over (entry o u es) h = rw (pass_over es h.1, h.0)

  collect : (mid high : Entries) → Crossing d e mid → overlapping d e high ≡ searching none high → any_past mid ≡ false → overlapping d e (mid <+> high) ≡ searching mid high
  unfolding when◌then◌else◌
  collect none high h q a = q
  collect (entry o u es) high h q a =
      let fine = or_false (past32 (ends o (size u))) (any_past es) a in
      rw (collect es high h.2 q fine.1, h.0, fine.0, h.1)

  collect_past : (mid high : Entries) → Crossing d e mid → overlapping d e high ≡ searching none high → any_past mid ≡ true → overlapping d e (mid <+> high) ≡ past
  unfolding when◌then◌else◌
  collect_past none high h q a = absurd (false≢true a)
  collect_past (entry o u es) high h q a = go (any_past es) (past32 (ends o (size u))) refl refl (collect_past es high h.2 q)
    where
      go : (c t : Bool) → any_past es ≡ c → past32 (ends o (size u)) ≡ t → (any_past es ≡ true → overlapping d e (es <+> high) ≡ past)
          → overlapping d e (entry o u (es <+> high)) ≡ past
      go true t ec et further = rw (further ec)
      go false true ec et further = rw (collect es high h.2 q ec, h.0, et)
      go false false ec et further = absurd (false≢true (rw (et, ec) at a))

  stay_past : (low es : Entries) → overlapping d e es ≡ past → overlapping d e (low <+> es) ≡ past
  stay_past none es q = q
  stay_past (entry o u low) es q = ap (overlap_next d e o u) (stay_past low es q)

  stop : (low : Entries) (o : ℕ) (u : Usage) (es mid high : Entries) → d ≤ max32 → (e ≤ˢ fixed o) ≡ false → (ends o (size u) ≤ˢ fixed d) ≡ true
      → overlapping d e es ≡ searching mid high → overlapping d e (low <+> entry o u es) ≡ stopped (low <+> entry o u none) mid high
  unfolding when◌then◌else◌
  stop none o u es mid high small start end q = rw (q, start, by_fits d (ends o (size u)) small end, end)
  stop (entry o' u' low) o u es mid high small start end q = ap (overlap_next d e o' u') (stop low o u es mid high small start end q)

  module _ (low mid high : Entries) (small : d ≤ max32) (ended : LastEndsBy d e low) (crossing : Crossing d e mid) (starts : Starting e high) where
    pub found_past : any_past mid ≡ true → overlapping d e (low <+> mid <+> high) ≡ past
    found_past a = stay_past low (mid <+> high) (collect_past mid high crossing (pass_over high starts) a)

    pub found_parts : (st : Setting) (place : Placing) (z : Size) (b : Usage) → any_past mid ≡ false
        → join_found st place z d b (overlapping d e (low <+> mid <+> high)) ≡ rebuilt z low high (join st place mid d b)
    found_parts st place z b a = go ended
      where
        q : overlapping d e (mid <+> high) ≡ searching mid high
        q = collect mid high crossing (pass_over high starts) a

        go : {es : Entries} → LastEndsBy d e es → join_found st place z d b (overlapping d e (es <+> mid <+> high)) ≡ rebuilt z es high (join st place mid d b)
        go nothing = ap (join_found st place z d b) q
        go (by es o u start end) =
            ap (λ x. join_found st place z d b (overlapping d e x)) (append_assoc es (entry o u none) (mid <+> high))
            ∙ ap (join_found st place z d b) (stop es o u (mid <+> high) mid high small start end q)
