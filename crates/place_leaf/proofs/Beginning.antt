-- A leaf stays a leaf where it stood, with the type that is kept, strict if either was: so rule 4 ends where it begins.
-- Assumes nothing.
use Prim.Native.Nat.{ℕ, ◌+◌}
use mathlib.Core.Path.{◌≡◌, refl, ap, ◌∙◌}
use Rattle.std.specs.Prelude.{Ok}
use mathlib.Core.Bool.{Bool, true, false, ◌||◌}
use mathlib.Core.List.{List, []}
use native.Mathlib.Omega.{arith}
use lib.ListN.{length}
use Rattle.definitions.specs.Usage.{Usage, unused, leaf, map, array, nodes}
use Rattle.definitions.specs.Command.{head_of, typed_command}
use Rattle.definitions.specs.Table.{Setting}
use Rattle.definitions.specs.Place.{after, is_strict, place_by_kind, place}
use Rattle.records.specs.Records.{command_in, cell, with_type, Set}
use Rattle.record_links.proofs.Stands.{stands_le, stands_marks, stands_wide}
use Rattle.record_links.proofs.Frames.{kept_marks, kept_set, kept_trans, kept_widen}
use Rattle.record_links.proofs.Changes.{stands_type}
use Rattle.layout.specs.Located.{Known}
use Rattle.layout.specs.declared.setting.Setting.{Setting as CodeSetting}
use Rattle.qptr.specs.Values.{command_of, kind_of}
use Rattle.qptr.specs.declared.Kind.{Kind}
use Rattle.report.specs.Emitted.{Emitted}
use Rattle.report.specs.declared.Report.{Report}
use Rattle.place_states.specs.Calls.{Two, ground}
use Rattle.place_states.specs.States.{Next}
use Rattle.place_states.specs.Starts.{Plain, Begins}
use Rattle.place_states.specs.Finished.{finished_state}
use Rattle.place_states.specs.declared.State.{State}
use Rattle.place_states.proofs.Ending.{next_finished}
use Rattle.place_states.proofs.Roots.{left_root, left_command, right_command, right_plain}
use Rattle.support_cache.specs.Nodes.{Unchanged}
use Rattle.support_cache.proofs.Staying.{command_stays}
use Rattle.place_leaf.specs.Leaves.{Typed, Stricter, report_of, Keeps}
use Rattle.place_leaf.specs.declared.Kept.{Kept}
use Rattle.place_leaf.proofs.Typing.{IsLeaf, is_leaf, left_leaf}

-- the kinds of a leaf and of b are told by their commands
strict_command : (k : Bool) (b : Usage) {x y v : Kind} → x ≡ kind_of (typed_command k) → y ≡ kind_of (head_of b).command → Stricter x y v → command_of v ≡ typed_command (k || is_strict b)
strict_command true b e f S = ap command_of (S.left e)
strict_command false (unused z) e f S = ap command_of (S.neither (λ h. cc) (λ h. cc))
strict_command false (leaf z true t) e f S = ap command_of (S.right f)
strict_command false (leaf z false t) e f S = ap command_of (S.neither (λ h. cc) (λ h. cc))
strict_command false (map z es) e f S = ap command_of (S.neither (λ h. cc) (λ h. cc))
strict_command false (array z n u) e f S = ap command_of (S.neither (λ h. cc) (λ h. cc))

pub leaf_begins : (code : CodeSetting) (s s₁ s' : List ℕ) (rep rep' : Report) (a d b : ℕ) (x y v : Kind) (kept : Kept) (st : State) → Plain (command_in s b) d → Typed (command_in s a)
    → Keeps code s a d b kept → Unchanged s s₁ → x ≡ kind_of (command_in s₁ a) → y ≡ kind_of (command_in s₁ b) → Stricter x y v
    → Set s₁ s' a (with_type (command_of v) kept.ty (cell s₁ a)) → length s' ≡ length s₁ → Emitted rep (report_of kept.conflict kept.ty) rep' → st ≡ finished_state a 1
    → Begins code s a d b rep s' rep' (Ok st)
leaf_begins code s s₁ s' rep rep' a d b x y v kept st plain T K U e₀ e₁ S W len E e = rw e (record {
  next = λ setting known t u r lo mid hi two short. go setting known u r lo mid hi (left_leaf two T) two;
})
  where
    go : (setting : Setting) → Known code setting → (u : Usage) (r : ℕ → ℕ) (lo mid hi : ℕ) {t : Usage} → IsLeaf t → Two (length setting.table) s a b r lo mid hi t u
        → Next setting (after [] 1 (place_by_kind setting (place setting) t d u)) (ground s r lo hi rep) (nodes t + nodes u) s' rep' a (finished_state a 1)
    go setting known u r lo mid hi (is_leaf z k t) two =
        let strict : command_of v ≡ typed_command (k || is_strict u) =
        strict_command k u (e₀ ∙ ap kind_of (command_stays U a ∙ left_command two)) (e₁ ∙ ap kind_of (command_stays U b ∙ right_command two)) S in
        let root = left_root two in
        let high = stands_le u s b r mid hi two.right in
        rw (right_plain two setting (place setting) d plain, ← K.is setting known z k t u r lo mid hi two)
        (next_finished setting (ground s r lo hi rep) _ s' rep' a _ a 1 (record {
          rank = r;
          kept = kept_trans s s₁ s' r r r lo hi (kept_marks s s₁ r lo hi U.len U.same)
              (kept_widen s₁ s' r r lo mid lo hi (omega arith) (omega arith) (kept_set s₁ s' r lo mid a (with_type (command_of v) kept.ty (cell s₁ a)) len root.low root.high W));
          stands = stands_wide (leaf z (k || is_strict u) kept.ty) s' a r lo mid lo hi (omega arith) (omega arith)
              (stands_type z k t (k || is_strict u) kept.ty s₁ s' a r lo mid (command_of v) len strict W (stands_marks (leaf z k t) s s₁ a r lo mid U.len U.same two.left));
          pairs = refl;
          report = E;
        }))
