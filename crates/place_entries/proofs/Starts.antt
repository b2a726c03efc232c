-- Before the first entry a itself is the result so far, with nothing reported behind the 30, and b's entries have ranks above a's.
-- Assumes nothing.
use Rattle.std.proofs.Common.{◌≡◌, ℕ, ◌+◌, List, [], ◌∷◌, length, refl, arith}
use Rattle.std.specs.Prelude.{Ok}
use Rattle.definitions.specs.Usage.{Size, Usage, map, Entries, nodes}
use Rattle.definitions.specs.Table.{Setting}
use Rattle.definitions.specs.Place.{after, place_by_kind, place}
use Rattle.records.specs.Records.{command_in, child_in}
use Rattle.record_links.specs.Standing.{Stands}
use Rattle.record_links.proofs.ByCommand.{IsMap, is_map}
use Rattle.record_links.proofs.Stands.{row_low}
use Rattle.record_links.proofs.Frames.{kept_none}
use Rattle.report.specs.Emitted.{Emitted}
use Rattle.report.specs.declared.Report.{Report}
use Rattle.place_states.specs.Calls.{Two, ground}
use Rattle.place_states.specs.Continuation.{entries}
use Rattle.place_states.specs.States.{Placing, Outside, Held}
use Rattle.place_states.specs.Starts.{Starts}
use Rattle.place_states.specs.declared.State.{State}
use Rattle.place_states.specs.declared.TheConstants.State.{NONE}
use Rattle.place_states.specs.declared.Rule.TheVariants.{Entries as ByEntries}
use Rattle.place_states.specs.declared.Todo.TheVariants.{Go}
use Rattle.place_states.proofs.Roots.{right_map}
use Rattle.place_states.proofs.Room.{room_first}
use Rattle.place_entries.proofs.Resuming.{finish_all}

-- a is the result so far; b's entries are those left; the report began at `base`
abbrev pub start_state : ℕ → ℕ → ℕ → ℕ → State
start_state a rest base at = record NONE { todo = Go; rule = ByEntries; x = a; rest = rest; pairings = 1; base = base; mark = at }

module _ (s : List ℕ) (a b base at : ℕ) (r : ℕ → ℕ) (lo mid hi : ℕ) where
  placing_start : {k : ℕ} {t : Usage} {z : Size} {es : Entries} → Two k s a b r lo mid hi t (map z es) → Placing k es s (start_state a (child_in s b) base at) r lo lo mid hi
  unfolding Stands
  placing_start {es} two = record {
    rule = refl;
    asks = λ e. absurd (cc);
    low = omega arith;
    held = row_low es s (child_in s b) 0 r _ mid hi (omega (arith, two.right.0.low)) two.right.2;
    lowest = 0;
    fits = two.right_fits.1;
  }

  module _ (rep rep' : Report) (is-base : base ≡ rep.at) (E : Emitted rep (0x30 ∷ []) rep') where
    held_start : (setting : Setting) {t u : Usage} → IsMap u → Two (length setting.table) s a b r lo mid hi t u
        → Held setting (after [] 1 (place_by_kind setting (place setting) t 0 u)) (ground s r lo hi rep) (nodes t + nodes u) s rep' a (start_state a (child_in s b) base at)
    unfolding Outside
    held_start setting {t} (is_map z es) two = record {
      y = entries es;
      u = t;
      w = [];
      p = 0;
      comes = finish_all setting z es t;
      within = omega arith;
      standing = record {
        rank = r;
        kept = kept_none s r lo hi;
        c = lo;
        e = mid;
        stands = two.left;
        fits = two.left_fits;
        few = two.few;
        pairs = refl;
        brief = omega arith;
        room = omega (arith, room_first t (map z es) (omega (arith, two.few)));
        based = is-base;
        report = E;
        outside = placing_start two;
      };
    }

-- what is left to do is what rule 2 gives
pub starts : (s : List ℕ) (rep rep' : Report) (a b base rest at : ℕ) → command_in s b ≡ 3 → base ≡ rep.at → Emitted rep (0x30 ∷ []) rep' → rest ≡ child_in s b
    → Starts s a 0 b rep s rep' (Ok (start_state a rest base at))
starts s rep rep' a b base rest at is is-base E e = rw e (record {
  next = λ setting t u r lo mid hi two short. record { ahead = held_start s a b base at r lo mid hi rep rep' is-base E setting (right_map two is) two };
})
