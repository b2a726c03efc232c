-- Rule 6 begins: the search parts the map's entries as the definition does, those that overlap are linked downwards, and b's ranks
-- come before those of the entries above.
-- Assumes nothing.
use Prim.Native.Nat.{ℕ, suc, ◌+◌, ◌-◌, ◌<◌, ◌≤◌}
use mathlib.Core.Path.{◌≡◌, refl, sym, ap, ◌∙◌, subst}
use mathlib.Core.Bool.{Bool, true, false, false≢true}
use mathlib.Core.List.{List, [], ◌∷◌}
use lib.ListN.{length}
use native.Mathlib.Omega.{arith}
use borrow.Author.Tests.{leb-true}
use Rattle.definitions.specs.If.{when◌then◌else◌}
use Rattle.definitions.specs.Usage.{Size, fixed, dynamic, Usage, map, Entries, none, entry, size, nodes, nodes_in, ◌<+>◌}
use Rattle.definitions.specs.Table.{Setting}
use Rattle.definitions.specs.Place.{refused, ends, past32, ◌≤ˢ◌, after, overlapping, join_found, rebuilt, place_in_map, place_in_kind, place_by_kind, place, joined}
use Rattle.definitions.specs.Sound.{Storable, Ascends}
use Rattle.definitions.proofs.Nodes.{append_nodes, few_entries}
use Rattle.records.specs.Records.{Cell, command_in, child_in, size_in}
use Rattle.record_links.specs.Standing.{Root, Finger, Stands, Row}
use Rattle.record_links.specs.Rows.{Up, onto}
use Rattle.record_links.specs.Ranks.{rotated}
use Rattle.record_links.specs.Frames.{Kept}
use Rattle.record_links.proofs.Stands.{root_same, stands_le, row_le, up_le, stands_still, row_still, down_still, up_still}
use Rattle.record_links.proofs.Frames.{kept_trans, kept_widen, apart}
use Rattle.record_links.proofs.Ranks.{rot_kept, rot_right, row_left}
use Rattle.record_links.proofs.Entries.{append_assoc, rev_twice}
use Rattle.record_links.proofs.Rows.{down_none}
use Rattle.record_links.proofs.Shapes.{map_of}
use Rattle.report.specs.Emitted.{Emitted}
use Rattle.report.specs.declared.Report.{Report}
use Rattle.report.proofs.Emitting.{kept_nothing}
use Rattle.place_states.specs.Calls.{Two, Beside}
use Rattle.place_states.specs.Continuation.{joins, join_down, finish, UpTo, FromOn}
use Rattle.place_states.specs.States.{Joins, Outside}
use Rattle.place_states.specs.Starts.{Plain, Starts}
use Rattle.std.specs.Prelude.{Result as Returned, Ok, Err}
use Rattle.place_states.specs.declared.State.{State}
use Rattle.place_states.specs.declared.TheConstants.State.{NONE}
use Rattle.place_states.specs.declared.SizeRefusal.TheVariants.{Past32}
use Rattle.place_states.specs.declared.Todo.TheVariants.{Go}
use Rattle.place_states.specs.declared.Rule.TheVariants.{Join as ByJoin}
use Rattle.place_states.proofs.Roots.{left_root, right_size, right_plain}
use Rattle.place_states.proofs.Room.{room_first}
use Rattle.place_search.specs.Numbers.{Denotes, Past}
use Rattle.place_search.specs.Parts.{Listed, LastEndsBy, nothing, by, Parted, Parts}
use Rattle.place_search.specs.declared.Overlap.{Overlap}
use Rattle.place_maps.specs.Runs.{Ahead, Run, Reversed}
use Rattle.place_maps.proofs.Entries.{under_of, upto_one_more}
use Rattle.place_maps.proofs.Overlaps.{Starting, high_starting, found_past, found_parts}
use Rattle.place_maps.proofs.Downward.{join_down_lem}

-- the receiver is a map, and its entries are linked from its record on
record Mapped (k : ℕ) (t : Usage) (s : List ℕ) (a : ℕ) (r : ℕ → ℕ) (lo mid : ℕ) : Type 0 where
  z : Size
  es : Entries
  is : t ≡ map z es
  root : Root s a r lo mid 3 z
  finger : Finger es s a
  row : Row es s (child_in s a) 0 r (suc (r a)) mid
  fits : Storable k (map z es)
  count_is : suc (nodes_in es) ≡ nodes t

mapped : {k : ℕ} {s : List ℕ} {a b : ℕ} {r : ℕ → ℕ} {lo mid hi : ℕ} {t u : Usage} → Two k s a b r lo mid hi t u → command_in s a ≡ 3 → Mapped k t s a r lo mid
mapped {k} {s} {a} {r} {lo} {mid} {t} two c =
    let M = map_of t s a r lo mid c two.left in
    let R = left_root two in
    record {
      z = size t;
      es = M.0;
      is = M.1;
      root = record { some = R.some; inside = R.inside; low = R.low; high = R.high; command = c; size = R.size };
      finger = M.2;
      row = M.3;
      fits = subst (Storable k) M.1 two.left_fits;
      count_is = sym (ap nodes M.1);
    }

pub listed : {s : List ℕ} {a b : ℕ} → Beside s a b → command_in s a ≡ 3 → Listed s a
listed {a} B c =
    let A = mapped B.two c in
    record {
      es = A.es;
      r = B.r;
      lo = suc (B.r a);
      hi = B.mid;
      row = A.row;
      finger = A.finger;
      few = omega (arith, A.count_is, B.two.few);
      inside = B.left_in;
      linkable = B.linkable;
    }

parted_nodes : {es : Entries} {r : ℕ → ℕ} {lo hi : ℕ} {s : List ℕ} {a d : ℕ} {e : Size} {b : Overlap} {c : Bool} (G : Parted es r lo hi s a d e b c)
    → nodes_in es ≡ nodes_in (onto G.low_down none) + nodes_in G.mid + nodes_in G.high
parted_nodes G = omega (arith, ap nodes_in G.is, append_nodes (onto G.low_down none) (G.mid <+> G.high), append_nodes G.mid G.high)

-- those that overlap, and those above
stood : {es : Entries} {r : ℕ → ℕ} {lo hi : ℕ} {s : List ℕ} {a d : ℕ} {e : Size} {b : Overlap} {c : Bool} (G : Parted es r lo hi s a d e b c) → Ahead true G.mid G.high none r G.m G.m G.n hi s b.first b.above 0
stood {r = r} {s = s} G = record { run = G.mid_held; rest = G.high_held; back = (down_none s r G.m, refl) }

pub run_of : {s : List ℕ} {a d b e : ℕ} {o : Returned Overlap Overlap} {found : Overlap} → Beside s a b → command_in s a ≡ 3 → Denotes e (ends d (size_in s b)) → Parts s a d e o → o ≡ Ok found → Run s found.first found.above 0
run_of {s} {a} {d} {b} {e} B c M F eo =
    let A = mapped B.two c in
    let G = (subst (Parts s a d e) eo F).parted (ends d (size_in s b)) A.es B.r (suc (B.r a)) B.mid M A.row A.finger in
    record {
      up = true;
      es = G.mid;
      fs = G.high;
      gs = none;
      r = B.r;
      y = G.m;
      n = G.m;
      m = G.n;
      z = B.mid;
      ahead = stood G;
      few = omega (arith, A.count_is, B.two.few, parted_nodes G, few_entries G.mid, few_entries G.high);
      linkable = B.linkable;
    }

-- The definition

module _ (st : Setting) (z : Size) (es : Entries) (d : ℕ) (b : Usage) where
  map_past : past32 (ends d (size b)) ≡ true → place_in_map st (place st) z es d b ≡ refused 9
  unfolding when◌then◌else◌
  map_past e = rw e

  map_fine : past32 (ends d (size b)) ≡ false → place_in_map st (place st) z es d b ≡ join_found st (place st) z d b (overlapping d (ends d (size b)) es)
  unfolding when◌then◌else◌
  map_fine e = rw e

into_map : (setting : Setting) {k : ℕ} {s : List ℕ} {a d b : ℕ} {r : ℕ → ℕ} {lo mid hi : ℕ} {t u : Usage} (two : Two k s a b r lo mid hi t u) (A : Mapped k t s a r lo mid) → Plain (command_in s b) d
    → place_by_kind setting (place setting) t d u ≡ place_in_map setting (place setting) A.z A.es d u
into_map setting {d} {u} two A P = right_plain two setting (place setting) d P ∙ ap (λ x. place_in_kind setting (place setting) x d u) A.is

-- Offsets

by_starts : (d o : ℕ) (y : Size) → (ends o y ≤ˢ fixed d) ≡ true → o ≤ d
by_starts d o dynamic e = absurd (false≢true e)
by_starts d o (fixed n) e = omega (arith, leb-true (o + n) d e)

upto_ended : (k d : ℕ) (e : Size) {es : Entries} (fs : Entries) → LastEndsBy d e es → Ascends k 0 (es <+> fs) → UpTo d es
upto_ended k d e fs nothing c = tt
upto_ended k d e fs (by es o u start end) c =
    upto_one_more es o d u (under_of k es o u fs 0 (rw (append_assoc es (entry o u none) fs) at c)) (by_starts d o (size u) end)

from_starting : (d : ℕ) (y : Size) (es : Entries) → Starting (ends d y) es → FromOn d es
from_starting d y none h = tt
from_starting d dynamic (entry o u es) h = absurd (false≢true h.0)
from_starting d (fixed n) (entry o u es) h = (omega (arith, leb-true (d + n) o h.0), from_starting d (fixed n) es h.1)

-- Refused

module _ {s : List ℕ} {a d b e : ℕ} (rep : Report) (P : Plain (command_in s b) d) (c : command_in s a ≡ 3) (M : Denotes e (ends d (size_in s b))) where
  refuses : ((setting : Setting) (z : Size) (es : Entries) (r : ℕ → ℕ) (lo mid : ℕ) (u : Usage) → Denotes e (ends d (size u)) → Row es s (child_in s a) 0 r lo mid → Finger es s a
      → Storable (length setting.table) (map z es) → place_in_map setting (place setting) z es d u ≡ refused 9) → Starts s a d b rep s rep (Err Past32)
  refuses why = record {
    next = λ setting t u r lo mid hi two short.
        let A = mapped two c in
        (ap (after [] 1) (into_map setting two A P ∙ why setting A.z A.es r (suc (r a)) mid u (rw (right_size two) at M) A.row A.finger A.fits), kept_nothing rep);
  }

  pub refused_end : {r : Bool} → Past e r → r ≡ true → Starts s a d b rep s rep (Err Past32)
  refused_end T t = refuses (λ setting z es r lo mid u N h g k. map_past setting z es d u (sym (T.of (ends d (size u)) N) ∙ t))

  pub refused_entry : {o : Returned Overlap Overlap} {found : Overlap} {r : Bool} → d < 4294967296 → Past e r → r ≡ false → Parts s a d e o → o ≡ Err found → Starts s a d b rep s rep (Err Past32)
  refused_entry small T t F eo = refuses (λ setting z es r lo mid u N h g k.
      let y : Size = ends d (size u) in
      let X = (subst (Parts s a d e) eo F).parted y es r lo mid N h g in
      let low : Entries = onto X.low_down none in
      map_fine setting z es d u (sym (T.of y N) ∙ t)
      ∙ ap (λ x. join_found setting (place setting) z d u (overlapping d y x)) X.is
      ∙ ap (join_found setting (place setting) z d u) (found_past d y low X.mid X.high (omega arith) X.low_ended X.mid_crossing (high_starting (length setting.table) X k.1) (sym X.mid_past)))

-- Begun

abbrev pub start_state : Overlap → ℕ → ℕ → ℕ → ℕ → ℕ → State
start_state found d b rest base mark = record NONE {
  todo = Go;
  rule = ByJoin;
  x = b;
  offset = d;
  rest = rest;
  q = found.above;
  low = found.low;
  pairings = 1;
  base = base;
  mark = mark;
}

-- s₁: those that overlap are linked downwards
module _ (s s₁ : List ℕ) (a d b base mark rest e : ℕ) (found : Overlap) {o : Returned Overlap Overlap} {t : Bool} (small : d < 4294967296) (P : Plain (command_in s b) d) (c : command_in s a ≡ 3) (M : Denotes e (ends d (size_in s b)))
    (T : Past e t) (fits : t ≡ false) (F : Parts s a d e o) (eo : o ≡ Ok found) (len : length s₁ ≡ length s) (X : Reversed s found.first found.above 0 s₁ rest) where
  record Begun (k : ℕ) (y u : Usage) (r : ℕ → ℕ) (lo hi : ℕ) : Type 0 where
    z : Size
    low : Entries
    mid : Entries
    high : Entries
    rank : ℕ → ℕ
    kept : Kept s r s₁ rank lo hi
    m : ℕ
    n : ℕ
    stands : Stands u s₁ b rank m n
    outside : Joins k z low mid high d s₁ a (start_state found d b rest base mark) rank lo m n hi
    counted : suc (nodes_in low + nodes_in mid + nodes_in high) ≡ nodes y
    comes : (setting : Setting) → finish setting (joins z low mid high d) u [] 0 ≡ after [] 1 (place_by_kind setting (place setting) y d u)

  module _ {k : ℕ} {r : ℕ → ℕ} {lo mid hi : ℕ} {y u : Usage} (two : Two k s a b r lo mid hi y u) (A : Mapped k y s a r lo mid) (N : Denotes e (ends d (size u)))
      (G : Parted A.es r (suc (r a)) mid s a d (ends d (size u)) found false) where
    abbrev low : Entries
    low = onto G.low_down none

    high_later : Starting (ends d (size u)) G.high
    high_later = high_starting k G A.fits.1

    comes_to : (setting : Setting) → place_by_kind setting (place setting) y d u ≡ rebuilt A.z low G.high (join_down setting G.mid (joined d u [] 0))
    comes_to setting =
        let f : Size = ends d (size u) in
        into_map setting two A P
        ∙ map_fine setting A.z A.es d u (sym (T.of f N) ∙ fits)
        ∙ ap (λ x. join_found setting (place setting) A.z d u (overlapping d f x)) G.is
        ∙ found_parts d f low G.mid G.high (omega arith) G.low_ended G.mid_crossing high_later setting (place setting) A.z u (sym G.mid_past)
        ∙ ap (rebuilt A.z low G.high) (join_down_lem setting G.mid d u)

    begun_from : Begun k y u r lo hi
    unfolding finish
    begun_from =
        let up : Ascends k 0 (low <+> G.mid <+> G.high) = rw G.is at A.fits.1 in
        let R = A.root in
        let B = X.back true G.mid G.high none r G.m G.m G.n mid (stood G) in
        let K : Kept s r s₁ r G.m G.n = B.kept in
        let am = up_le G.low_down s a found.low r (suc (r a)) G.m G.low_held in
        let mn = row_le G.mid s found.first found.above r G.m G.n G.mid_held in
        let h₁ : G.n ≤ mid = row_le G.high s found.above 0 r G.n mid G.high_held in
        let bl = stands_le u s b r mid hi two.right in
        let h₂ : mid ≤ hi = omega arith in
        let r' : ℕ → ℕ = rotated r G.n mid hi in
        let K' : Kept s₁ r s₁ r' G.n hi = rot_kept s₁ r G.n mid hi h₁ h₂ in
        let J : Kept s r s₁ r' G.m hi = kept_trans s s₁ s₁ r r r' G.m hi (kept_widen s s₁ r r G.m G.n G.m hi (omega arith) (omega arith) K) (kept_widen s₁ s₁ r r' G.n hi G.m hi mn (omega arith) K') in
        let w = J.outs a (λ p q. omega arith) in
        record {
          z = A.z;
          low = low;
          mid = G.mid;
          high = G.high;
          rank = r';
          kept = kept_widen s s₁ r r' G.m hi lo hi (omega (arith, R.low)) (omega arith) J;
          m = G.n;
          n = G.n + (hi - mid);
          stands = rot_right s₁ r G.n mid hi h₁ h₂ u b (stands_still u s s₁ b r r mid hi len (apart s s₁ r r G.m G.n mid hi K (omega arith)) two.right);
          outside = record {
            rule = refl;
            root = root_same s s₁ a r r' lo mid lo G.n 3 A.z len w.0 (omega (arith, R.low, w.1)) (omega (arith, w.1)) R;
            size_fits = A.fits.0;
            offset = refl;
            low_down = G.low_down;
            low_is = refl;
            mid_down = onto G.mid none;
            mid_is = sym (rev_twice G.mid);
            m = G.m;
            low_held = subst (λ (x : ℕ). Up G.low_down s₁ a found.low r' (suc x) G.m) (sym w.1)
                (up_still G.low_down s s₁ a found.low r r' (suc (r a)) G.m len (ap (λ (x : Cell). x.child) w.0) (apart s s₁ r r' G.m hi (suc (r a)) G.m J (omega arith)) G.low_held);
            mid_held = down_still (onto G.mid none) s₁ s₁ rest r r' G.m G.n refl (apart s₁ s₁ r r' G.n hi G.m G.n K' (omega arith)) B.line.0;
            high_held = row_left s₁ r G.n mid hi h₁ h₂ G.high found.above 0
                (row_still G.high s s₁ found.above 0 r r G.n mid len (apart s s₁ r r G.m G.n G.n mid K (omega arith)) G.high_held);
            ascends = up;
            low_by = upto_ended k d (ends d (size u)) (G.mid <+> G.high) G.low_ended up;
            high_from = from_starting d (size u) G.high high_later;
            offset_fits = omega arith;
          };
          counted = omega (arith, A.count_is, parted_nodes G);
          comes = λ setting. sym (ap (after [] 1) (comes_to setting));
        }

  begun : {k : ℕ} {r : ℕ → ℕ} {lo mid hi : ℕ} {y u : Usage} → Two k s a b r lo mid hi y u → Begun k y u r lo hi
  begun {r} {mid} {u} two =
      let A = mapped two c in
      let N : Denotes e (ends d (size u)) = rw (right_size two) at M in
      begun_from two A N ((subst (Parts s a d e) eo F).parted (ends d (size u)) A.es r (suc (r a)) mid N A.row A.finger)

  pub begun_starts : {rep rep' : Report} → base ≡ rep.at → Emitted rep (0x30 ∷ []) rep' → Starts s a d b rep s₁ rep' (Ok (start_state found d b rest base mark))
  unfolding Outside
  begun_starts is-base E = record {
    next = λ setting y u r lo mid hi two short.
        let G = begun two in
        record {
          ahead = record {
            y = joins G.z G.low G.mid G.high d;
            u = u;
            w = [];
            p = 0;
            comes = G.comes setting;
            within = omega (arith, G.counted);
            standing = record {
              rank = G.rank;
              kept = G.kept;
              c = G.m;
              e = G.n;
              stands = G.stands;
              fits = two.right_fits;
              few = omega (arith, G.counted, two.few);
              pairs = omega arith;
              brief = omega arith;
              room = omega (arith, room_first u (map G.z G.mid) (omega (arith, two.few, G.counted)));
              based = is-base;
              report = E;
              outside = G.outside;
            };
          };
        };
  }
