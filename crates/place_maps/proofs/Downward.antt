-- Joining goes down entry by entry: the last of those left is joined with what joining has come to, and a straddle or a refusal stays.
-- Assumes nothing.
use Prim.Native.Nat.{ℕ}
use mathlib.Core.Path.{◌≡◌, refl, ap}
use mathlib.Core.List.{List, []}
use Rattle.definitions.specs.Usage.{Size, Usage, map, Entries, none, entry, ◌<+>◌}
use Rattle.definitions.specs.Table.{Setting}
use Rattle.definitions.specs.Place.{Result, refused, done, after, Joining, barred, straddled, joined, joined_at, join_entry, join_next, join, rebuilt, place, of_rule, insert}
use Rattle.place_states.specs.Continuation.{joins, join_down, finish, resume}
use Rattle.record_links.proofs.Entries.{app_none}

module _ (st : Setting) where
  pub join_down_lem : (es : Entries) (d : ℕ) (b : Usage) → join st (place st) es d b ≡ join_down st es (joined d b [] 0)
  join_down_lem none d b = refl
  join_down_lem (entry o u es) d b = ap (join_next st (place st) o u) (join_down_lem es d b)

  down_last : (es : Entries) (o : ℕ) (u : Usage) (j : Joining) → join_down st (es <+> entry o u none) j ≡ join_down st es (join_next st (place st) o u j)
  down_last none o u j = refl
  down_last (entry o' u' es) o u j = ap (join_next st (place st) o' u') (down_last es o u j)

  down_barred : (es : Entries) (k : ℕ) → join_down st es (barred k) ≡ barred k
  down_barred none k = refl
  down_barred (entry o u es) k = ap (join_next st (place st) o u) (down_barred es k)

  down_straddled : (es fs : Entries) (w : List ℕ) (p : ℕ) → join_down st es (straddled fs w p) ≡ straddled (es <+> fs) w p
  down_straddled none fs w p = refl
  down_straddled (entry o u es) fs w p = ap (join_next st (place st) o u) (down_straddled es fs w p)

  module _ (z : Size) (low high : Entries) where
    -- where joining has come to j, and then goes down through es
    abbrev pub down_from : Entries → Joining → Result Usage
    down_from es j = after [] 1 (rebuilt z low high (join_down st es j))

    pub resume_joins : (es : Entries) (d o : ℕ) (w : List ℕ) (p : ℕ) (r : Result Usage) → resume st (joins z low es high d) o w p r ≡ down_from es (joined_at d o w p r)
    unfolding resume finish
    resume_joins es d o w p (refused k) = rw (down_barred es k)
    resume_joins es d o w p (done u w' p') = refl

    pub finish_last : {mid : Entries} (es : Entries) (o : ℕ) (u : Usage) (d : ℕ) (b : Usage) (w : List ℕ) (p : ℕ) {j : Joining} → mid ≡ es <+> entry o u none
        → join_entry st (place st) o u d b w p ≡ j → finish st (joins z low mid high d) b w p ≡ down_from es j
    unfolding finish
    finish_last es o u d b w p e ej = rw (e, down_last es o u (joined d b w p)) (ap (down_from es) ej)

    pub finish_straddled : (es : Entries) (w : List ℕ) (p : ℕ) → down_from es (straddled none w p) ≡ after [] 1 (done (map z (low <+> es <+> high)) w p)
    finish_straddled es w p = rw (down_straddled es none w p, app_none es)

    pub finish_none : {mid : Entries} (d : ℕ) (b : Usage) (w : List ℕ) (p : ℕ) → mid ≡ none
        → finish st (joins z low mid high d) b w p ≡ after [] 1 (done (map z (insert d b (low <+> high))) (of_rule w) p)
    unfolding finish
    finish_none d b w p e = rw e
