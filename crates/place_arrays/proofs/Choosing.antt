-- Rule 5's beginning: whatever b does, the state that is left stands for what the rule gives.
-- Assumes nothing.
use Rattle.std.proofs.Common.{◌≡◌, ℕ, ◌+◌, ◌%◌, ◌^◌, ◌<◌, true, false, List, [], length, refl, sym, ap, ◌∙◌, arith}
use Rattle.std.specs.Prelude.{Ok}
use Rattle.definitions.specs.Usage.{Usage, nodes}
use Rattle.definitions.specs.Command.{head_of}
use Rattle.definitions.specs.Table.{Setting}
use Rattle.definitions.specs.Place.{stride_conflict, after, place_by_kind, place}
use Rattle.records.specs.Records.{command_in, child_in, argument_in}
use Rattle.record_links.specs.Standing.{Stands}
use Rattle.record_links.proofs.ByCommand.{IsArray, is_array}
use Rattle.record_links.proofs.Stands.{stands_wide}
use Rattle.report.specs.Emitted.{Emitted}
use Rattle.report.specs.declared.Report.{Report}
use Rattle.place_states.specs.Calls.{Two, ground}
use Rattle.place_states.specs.States.{Pending, Next}
use Rattle.place_states.specs.Starts.{Plain, Starts}
use Rattle.place_states.specs.Finished.{finished_state}
use Rattle.place_states.specs.declared.State.{State}
use Rattle.place_states.proofs.Ending.{next_kept}
use Rattle.place_states.proofs.Roots.{left_array, right_array, right_size, right_command, right_plain}
use Rattle.place_arrays.specs.Arrays.{Fits, Longer, Meets, element_pairing, element_state}
use Rattle.place_arrays.specs.declared.Meeting.{Meeting}
use Rattle.place_arrays.specs.declared.Meeting.TheVariants.{Inside, Elements, Apart}
use Rattle.place_arrays.proofs.Elements.{array_fits, array_merges, array_conflict}
use Rattle.place_arrays.proofs.Strides.{array_argument}
use Rattle.place_arrays.proofs.Pairing.{pending_element}

-- How the rule goes on, by what b does
module _ (s : List ℕ) (rep : Report) (a d b : ℕ) (plain : Plain (command_in s b) d) (is : command_in s a ≡ 4)
    (w : Meeting) (meets : Meets s a d b w) where
  -- b goes into the element
  pub starts_inside : (r x : ℕ) (st : State) → rep.at < 2 ^ 64 → w ≡ Inside r → x ≡ child_in s a → st ≡ element_state x b r rep.at → Starts s a d b rep s rep (Ok st)
  unfolding Stands Meets
  starts_inside r x st small inside ex e =
      let m : (r ≡ d % argument_in s a) × Fits s a d b true = rw inside at meets in
      rw (e, ex, m.0) (record {
        next = λ setting t u r lo mid hi two short. record { ahead = go setting m.1 (left_array two is) u r lo mid hi two };
      })
    where
      go : (setting : Setting) → Fits s a d b true → {t : Usage} → IsArray t → (u : Usage) (r : ℕ → ℕ) (lo mid hi : ℕ) → Two (length setting.table) s a b r lo mid hi t u
          → Pending (element_pairing (d % argument_in s a)) setting (after [] 1 (place_by_kind setting (place setting) t d u)) (ground s r lo hi rep) (nodes t + nodes u) s rep a (element_state (child_in s a) b (d % argument_in s a) rep.at)
      go setting fits (is_array z n v) u r lo mid hi two =
          let own : argument_in s a ≡ n = two.left.1 in
          rw own (pending_element setting s rep a (d % n) z n v r lo mid two.left two.left_fits small _ _ u b hi two.right two.right_fits two.few (omega arith)
          (ap (after [] 1) (sym (right_plain two setting (place setting) d plain ∙ array_fits setting z n v d u (rw (own, right_size two) at fits)))))

  -- b's element goes into the element
  pub starts_merging : (x m : ℕ) (st : State) → rep.at < 2 ^ 64 → w ≡ Elements → x ≡ child_in s a → m ≡ child_in s b → st ≡ element_state x m 0 rep.at → Starts s a d b rep s rep (Ok st)
  unfolding Stands Meets
  starts_merging x m st small elements ex em e =
      let longer : Longer s a d b true = rw elements at meets in
      let command : command_in s b ≡ 4 = (longer.strides.holds refl).1 in
      rw (e, ex, em) (record {
        next = λ setting t u r lo mid hi two short. record { ahead = go setting longer (left_array two is) (right_array two command) r lo mid hi two };
      })
    where
      go : (setting : Setting) → Longer s a d b true → {t u : Usage} → IsArray t → IsArray u → (r : ℕ → ℕ) (lo mid hi : ℕ) → Two (length setting.table) s a b r lo mid hi t u
          → Pending (element_pairing 0) setting (after [] 1 (place_by_kind setting (place setting) t d u)) (ground s r lo hi rep) (nodes t + nodes u) s rep a (element_state (child_in s a) (child_in s b) 0 rep.at)
      go setting longer (is_array z n v) (is_array y k f) r lo mid hi two =
          let own : argument_in s a ≡ n = two.left.1 in
          let found = longer.strides.holds refl in
          let equal : k ≡ n = sym two.right.1 ∙ found.2 ∙ own in
          let f-stands : Stands f s (child_in s b) r mid hi = stands_wide f s (child_in s b) r _ hi mid hi (omega (arith, two.right.0.low)) (omega arith) two.right.2 in
          pending_element setting s rep a 0 z n v r lo mid two.left two.left_fits small _ _ f (child_in s b) hi f-stands two.right_fits.3 (omega (arith, two.few)) (omega arith)
          (ap (after [] 1) (sym (right_plain two setting (place setting) d plain
          ∙ array_merges setting z n v d y k f (rw (own, right_size two) at longer.longer) (rw own at found.0) equal)))

  -- a conflict
  pub starts_conflict : (stride : ℕ) (rep₁ : Report) (st : State) → w ≡ Apart → stride ≡ argument_in s a → Emitted rep (stride_conflict stride) rep₁
      → st ≡ finished_state a 1 → Starts s a d b rep s rep₁ (Ok st)
  unfolding Stands Meets
  starts_conflict stride rep₁ st apart es E e =
      let longer : Longer s a d b false = rw apart at meets in
      rw e (record {
        next = λ setting t u r lo mid hi two short. go setting longer (left_array two is) u r lo mid hi two;
      })
    where
      go : (setting : Setting) → Longer s a d b false → {t : Usage} → IsArray t → (u : Usage) (r : ℕ → ℕ) (lo mid hi : ℕ) → Two (length setting.table) s a b r lo mid hi t u
          → Next setting (after [] 1 (place_by_kind setting (place setting) t d u)) (ground s r lo hi rep) (nodes t + nodes u) s rep₁ a (finished_state a 1)
      go setting longer (is_array z n v) u r lo mid hi two =
          let own : argument_in s a ≡ n = two.left.1 in
          let other : d % n ≡ 0 → (head_of u).command ≡ 4 → (head_of u).argument ≡ n → ⊥ = λ o c k.
          longer.strides.fails refl (rw own o) (right_command two ∙ c) (array_argument u s b r mid hi two.right c ∙ k ∙ sym own) in
          rw (right_plain two setting (place setting) d plain ∙ array_conflict setting z n v d u (rw (own, right_size two) at longer.longer) other)
          (next_kept setting two _ (stride_conflict n) (rw (es ∙ own) at E))
