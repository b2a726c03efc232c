-- Merging is placing at 0 in the one that receives, which the two roots tell: only sizes and commands are asked for. Where the second
-- receives, the two change their ranks and nothing else.
-- Assumes nothing.
use Rattle.std.proofs.Common.{◌≡◌, ℕ, ◌+◌, ◌-◌, ◌≤◌, Bool, true, false, List, refl, sym, ap, ◌∙◌, arith}
use Rattle.std.specs.Prelude.{Result as Returned, Ok, Err}
use Rattle.layout.specs.Located.{Known}
use Rattle.layout.specs.declared.setting.Setting.{Setting as CodeSetting}
use Rattle.definitions.specs.If.{when◌then◌else◌}
use Rattle.definitions.specs.Usage.{Usage, unused, leaf, map, array, none, size}
use Rattle.definitions.specs.Command.{head_of, strictness}
use Rattle.definitions.specs.Table.{Setting}
use Rattle.definitions.specs.Place.{Result, refused, done, place, merge_mem, first_receives}
use Rattle.definitions.specs.Requests.Choices.{Choices}
use Rattle.qptr.specs.Choices.{choices_in}
use Rattle.qptr.specs.Values.{OwnPart as IsNode, Receives}
use Rattle.qptr.specs.declared.Node.{Node}
use Rattle.record_links.specs.Standing.{Root}
use Rattle.record_links.specs.Ranks.{rotated}
use Rattle.record_links.proofs.Stands.{stands_root, stands_le}
use Rattle.record_links.proofs.Frames.{kept_trans}
use Rattle.record_links.proofs.Ranks.{rot_kept, rot_left, rot_right}
use Rattle.place_states.specs.Calls.{Two, Ready, Done, ground, placing, merging, Placed}
use Rattle.place_states.proofs.Starting.{ready_two}
use Rattle.report.specs.declared.Report.{Report}
use Rattle.place_states.specs.declared.Merged.{Merged}
use Rattle.place_states.specs.declared.SizeRefusal.{SizeRefusal}
use Rattle.analyze.specs.Roots.{RootNode}

-- with nothing but a size and a command
abbrev bare : Usage → Usage
bare (unused z) = unused z
bare (leaf z k t) = leaf z k 0
bare (map z es) = map z none
bare (array z n e) = array z 0 (unused z)

bare_size : (u : Usage) → size (bare u) ≡ size u
bare_size (unused z) = refl
bare_size (leaf z k t) = refl
bare_size (map z es) = refl
bare_size (array z n e) = refl

bare_strictness : (u : Usage) → strictness (bare u) ≡ strictness u
bare_strictness (unused z) = refl
bare_strictness (leaf z k t) = refl
bare_strictness (map z es) = refl
bare_strictness (array z n e) = refl

bare_receives : (ch : Choices) (u v : Usage) → first_receives ch (bare u) (bare v) ≡ first_receives ch u v
bare_receives ch u v = rw (bare_size u, bare_size v, bare_strictness u, bare_strictness v)

bare_stands : (u : Usage) {s : List ℕ} {q : ℕ} {r : ℕ → ℕ} {lo hi : ℕ} {x : Node} → Root s q r lo hi (head_of u).command (size u) → RootNode s q x → IsNode x (bare u)
bare_stands (unused z) H T = T.part ∙ rw (H.command, H.size) refl
bare_stands (leaf z true t) H T = T.part ∙ rw (H.command, H.size) refl
bare_stands (leaf z false t) H T = T.part ∙ rw (H.command, H.size) refl
bare_stands (map z es) H T = T.part ∙ rw (H.command, H.size) refl
bare_stands (array z n e) H T = T.part ∙ rw (H.command, H.size) refl

module _ {k : ℕ} {s : List ℕ} {a b : ℕ} {r : ℕ → ℕ} {lo mid hi : ℕ} {t u : Usage} (two : Two k s a b r lo mid hi t u) where
  roots_receive : {code : CodeSetting} {st : Setting} {x y : Node} {f : Bool} → Known code st → RootNode s a x → RootNode s b y
      → Receives code.choices x y f → f ≡ first_receives st.choices t u
  roots_receive {code} known X Y R =
      R.of (bare t) (bare u) (bare_stands t (stands_root t s a r lo mid two.left) X) (bare_stands u (stands_root u s b r mid hi two.right) Y)
      ∙ bare_receives (choices_in code.choices) t u ∙ ap (λ ch. first_receives ch t u) known.chosen

  low : lo ≤ mid
  low = omega (arith, stands_le t s a r lo mid two.left)

  high : mid ≤ hi
  high = omega (arith, stands_le u s b r mid hi two.right)

  two_swap : Two k s b a (rotated r lo mid hi) lo (lo + (hi - mid)) hi u t
  two_swap = record {
    left = rot_right s r lo mid hi low high u b two.right;
    right = rot_left s r lo mid hi low high t a two.left;
    left_fits = two.right_fits;
    right_fits = two.left_fits;
    few = omega (arith, two.few);
  }

pub ready_swap : {code : CodeSetting} {s : List ℕ} {a b : ℕ} → Ready code s a b → Ready code s b a
ready_swap R = ready_two R.setting (two_swap R.two) R.known R.linkable

module _ (setting : Setting) (a b : Usage) where
  merges_left : first_receives setting.choices a b ≡ true → place setting a 0 b ≡ merge_mem setting a b
  unfolding merge_mem when◌then◌else◌
  merges_left e = rw e

  merges_right : first_receives setting.choices a b ≡ false → place setting b 0 a ≡ merge_mem setting a b
  unfolding merge_mem when◌then◌else◌
  merges_right e = rw e

-- what began with the ranks exchanged began with them as they were
module _ (s : List ℕ) (r : ℕ → ℕ) (lo mid hi : ℕ) (rep : Report) (s' : List ℕ) (rep' : Report) (le : lo ≤ mid) (he : mid ≤ hi) where
  swapped_back : (goal : Result Usage) (x : Returned Merged SizeRefusal) → Done goal (ground s (rotated r lo mid hi) lo hi rep) s' x rep' → Done goal (ground s r lo hi rep) s' x rep'
  swapped_back (refused k) (Ok m) D = D
  swapped_back (refused k) (Err e) D = D
  swapped_back (done u w q) (Err e) D = D
  swapped_back (done u w q) (Ok m) D = record {
    rank = D.rank;
    kept = kept_trans s s s' r (rotated r lo mid hi) D.rank lo hi (rot_kept s r lo mid hi le he) D.kept;
    stands = D.stands;
    pairs = D.pairs;
    report = D.report;
  }

module _ {code : CodeSetting} {s : List ℕ} {a b : ℕ} {x y : Node} {f : Bool} {s' : List ℕ} {r : Returned Merged SizeRefusal} {rep rep' : Report} where
  pub merged_left : RootNode s a x → RootNode s b y → Receives code.choices x y f → f ≡ true → Placed (placing 0) code s a b s' r rep rep' → Placed merging code s a b s' r rep rep'
  unfolding placing merging
  merged_left X Y R e P = record {
    done = λ setting known t u rank lo mid hi two. rw (merges_left setting t u (sym (roots_receive two known X Y R) ∙ e)) at (P.done setting known t u rank lo mid hi two);
  }

  pub merged_right : RootNode s a x → RootNode s b y → Receives code.choices x y f → f ≡ false → Placed (placing 0) code s b a s' r rep rep' → Placed merging code s a b s' r rep rep'
  unfolding placing merging
  merged_right X Y R e P = record {
    done = λ setting known t u rank lo mid hi two.
        rw (merges_right setting t u (sym (roots_receive two known X Y R) ∙ e)) at (swapped_back s rank lo mid hi rep s' rep' (low two) (high two) (place setting u 0 t) r
        (P.done setting known u t (rotated rank lo mid hi) lo (lo + (hi - mid)) hi (two_swap two)));
  }
