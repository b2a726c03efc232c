-- The pair of rule 5: a's element, whose ranks are above a's root, and what goes into it.
-- Assumes nothing.
use Rattle.std.proofs.Common.{◌≡◌, ℕ, suc, ◌+◌, ◌^◌, ◌<◌, ◌≤◌, List, [], length, refl, ◌∙◌, arith}
use Rattle.definitions.specs.Limits.{node_limit}
use Rattle.definitions.specs.Usage.{Size, Usage, array, nodes}
use Rattle.definitions.specs.Table.{Setting}
use Rattle.definitions.specs.Place.{Result, under, after}
use Rattle.definitions.specs.Sound.{Storable}
use Rattle.records.specs.Records.{child_in}
use Rattle.record_links.specs.Standing.{Stands}
use Rattle.record_links.proofs.Frames.{kept_none}
use Rattle.report.proofs.Emitting.{emitted_nothing}
use Rattle.report.specs.declared.Report.{Report}
use Rattle.place_states.specs.Calls.{ground}
use Rattle.place_states.specs.Continuation.{element, act}
use Rattle.place_states.specs.States.{Outside, Pending}
use Rattle.place_states.proofs.Room.{room_first}
use Rattle.place_arrays.specs.Arrays.{element_pairing, element_state}
use Rattle.place_arrays.proofs.Elements.{resume_element}

-- a is an array, and f, at record m, has the ranks above it
module _ (setting : Setting) (s : List ℕ) (rep : Report) (a d : ℕ) (z : Size) (n : ℕ) (e : Usage) (r : ℕ → ℕ) (lo mid : ℕ) (stands : Stands (array z n e) s a r lo mid)
    (fits : Storable (length setting.table) (array z n e)) (small : rep.at < 2 ^ 64) where
  pub pending_element : (goal : Result Usage) (all : ℕ) (f : Usage) (m hi : ℕ) → Stands f s m r mid hi → Storable (length setting.table) f
      → nodes (array z n e) + nodes f ≤ node_limit → nodes (array z n e) + nodes f ≤ all → after [] 1 (under (array z n) (act setting (element_pairing d) d e f)) ≡ goal
      → Pending (element_pairing d) setting goal (ground s r lo hi rep) all s rep a (element_state (child_in s a) m d rep.at)
  unfolding Stands Outside
  pending_element goal all f m hi f-stands f-fits few within is = record {
    y = element z n;
    o = 0;
    w = [];
    p = 0;
    t = e;
    u = f;
    comes = resume_element setting z n 0 (act setting (element_pairing d) d e f) ∙ is;
    within = omega arith;
    rank = r;
    kept = kept_none s r lo hi;
    c = suc (r a);
    m = mid;
    e = hi;
    two = record { left = stands.2; right = f-stands; left_fits = fits.3; right_fits = f-fits; few = omega arith };
    few = omega arith;
    pairs = refl;
    brief = omega arith;
    room = omega (arith, room_first e f (omega arith));
    based = refl;
    mark = omega arith;
    report = emitted_nothing rep small;
    outside = record {
      rule = refl;
      root = record { some = stands.0.some; inside = stands.0.inside; low = stands.0.low; high = omega arith; command = stands.0.command; size = stands.0.size };
      stride = stands.1;
      high = omega arith;
      rest = refl;
      size_fits = fits.0;
      stride_some = fits.1;
      stride_fits = fits.2;
    };
  }
