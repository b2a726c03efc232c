-- Rule 3: b's root gets a's size, and b is the result; a's one record is left behind.
-- Assumes nothing.
use Rattle.std.proofs.Common.{◌≡◌, ℕ, ◌+◌, List, [], length, refl, ◌∙◌, arith}
use Rattle.std.specs.Prelude.{Ok}
use Rattle.definitions.specs.Usage.{Usage, nodes}
use Rattle.definitions.specs.Table.{Setting}
use Rattle.definitions.specs.Place.{done, with_size, after, place_by_kind, place}
use Rattle.layout.specs.declared.setting.Setting.{Setting as CodeSetting}
use Rattle.qptr.specs.Values.{size_of}
use Rattle.qptr.specs.declared.MaxSize.{MaxSize}
use Rattle.records.specs.Records.{command_in, size_in, cell, with_size as sized, Set}
use Rattle.record_links.proofs.ByCommand.{IsUnused, is_unused_lem}
use Rattle.record_links.proofs.Stands.{stands_le, stands_wide}
use Rattle.record_links.proofs.Frames.{kept_set, kept_widen}
use Rattle.record_links.proofs.Changes.{stands_resize}
use Rattle.report.proofs.Emitting.{emitted_nothing}
use Rattle.report.specs.declared.Report.{Report}
use Rattle.place_states.specs.Calls.{Two, ground}
use Rattle.place_states.specs.States.{Next, Short}
use Rattle.place_states.specs.Starts.{Plain, Begins}
use Rattle.place_states.specs.Finished.{finished_state}
use Rattle.place_states.specs.declared.State.{State}
use Rattle.place_states.proofs.Ending.{next_finished}
use Rattle.place_states.proofs.Starting.{starts_begins}
use Rattle.place_states.proofs.Roots.{left_unused, left_size, right_root, right_plain}
use Rattle.place_unused.specs.Resized.{Resized}

pub resized : (s s₁ : List ℕ) (a b : ℕ) (z : MaxSize) (st : State) → command_in s a ≡ 0 → size_of z ≡ size_in s a → length s₁ ≡ length s
    → Set s s₁ b (sized (size_of z) (cell s b)) → st ≡ finished_state b 1 → Resized s a b s₁ st
resized s s₁ a b z st is-first ez len S e = rw e (record {
  starts = λ d rep plain. record {
    next = λ setting t u r lo mid hi two short. go setting d rep plain (left_unused two is-first) u r lo mid hi two short;
  };
})
  where
    go : (setting : Setting) (d : ℕ) (rep : Report) → Plain (command_in s b) d → {t : Usage} → IsUnused t → (u : Usage) (r : ℕ → ℕ) (lo mid hi : ℕ)
        → Two (length setting.table) s a b r lo mid hi t u
        → Short rep.at (after [] 1 (place_by_kind setting (place setting) t d u))
        → Next setting (after [] 1 (place_by_kind setting (place setting) t d u)) (ground s r lo hi rep) (nodes t + nodes u) s₁ rep a (finished_state b 1)
    go setting d rep plain {t} (is_unused_lem y) u r lo mid hi two short =
        let size_is : size_of z ≡ y = ez ∙ left_size two in
        let low = stands_le t s a r lo mid two.left in
        let root = right_root two in
        rw (right_plain two setting (place setting) d plain)
        (next_finished setting (ground s r lo hi rep) _ s₁ rep a (done (with_size y u) [] 1) b 1 (record {
          rank = r;
          kept = kept_widen s s₁ r r mid hi lo hi (omega arith) (omega arith) (kept_set s s₁ r mid hi b (sized (size_of z) (cell s b)) len root.low root.high S);
          stands = stands_wide (with_size y u) s₁ b r mid hi lo hi (omega arith) (omega arith) (rw size_is at (stands_resize u s s₁ b r mid hi (size_of z) len S two.right));
          pairs = refl;
          report = emitted_nothing rep (omega (arith, (rw (right_plain two setting (place setting) d plain) at short).0));
        }))

-- for a caller, who knows the offset, the report and the table
pub resized_begins : (code : CodeSetting) (s s' : List ℕ) (rep : Report) (a d b : ℕ) (st : State) → Plain (command_in s b) d → Resized s a b s' st
    → Begins code s a d b rep s' rep (Ok st)
resized_begins code s s' rep a d b st plain R = starts_begins code s a d b rep s' rep (Ok st) (R.starts d rep plain)
