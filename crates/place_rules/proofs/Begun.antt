-- Where a placing has begun: refused by its sizes, with the number; or by the rule of b's kind and a's, which is what the placing is.
-- Assumes nothing.
use Rattle.std.proofs.Common.{◌≡◌, ℕ, ◌+◌, List, [], length, refl, ◌∙◌, arith}
use Rattle.std.specs.Prelude.{Result as Returned, Ok, Err}
use Rattle.definitions.specs.Usage.{Usage, nodes}
use Rattle.definitions.specs.Table.{Setting}
use Rattle.definitions.specs.Place.{Result, refused, after, size_refusal, unless_refused, place_by_kind, place}
use Rattle.definitions.proofs.PlaceFuel.{place_is}
use Rattle.layout.specs.declared.setting.Setting.{Setting as CodeSetting}
use Rattle.qptr.specs.Values.{size_of, command_of, kind_of}
use Rattle.qptr.specs.declared.Kind.{Kind}
use Rattle.qptr.specs.declared.MaxSize.{MaxSize}
use Rattle.records.specs.Records.{command_in, size_in}
use Rattle.record_links.specs.Rows.{nodes_at}
use Rattle.record_links.proofs.ByCommand.{IsUnused, is_unused_lem}
use Rattle.record_links.proofs.Shapes.{kind_says}
use Rattle.report.specs.declared.Report.{Report}
use Rattle.report.proofs.Emitting.{emitted_nothing, kept_nothing}
use Rattle.place_states.specs.Calls.{Two, Ready, NoWrap, ground}
use Rattle.place_states.specs.States.{Next, Short}
use Rattle.place_states.specs.Starts.{Begins, Began}
use Rattle.place_states.specs.Finished.{finished_state}
use Rattle.place_states.specs.Refusals.{number_of}
use Rattle.place_states.specs.declared.SizeRefusal.{SizeRefusal}
use Rattle.place_states.specs.declared.SizeRefusal.TheVariants.{Outgrown, Past32}
use Rattle.place_states.specs.declared.State.{State}
use Rattle.place_states.proofs.Ending.{next_kept}
use Rattle.place_states.proofs.Roots.{left_size, right_size, right_unused}
use Rattle.place_states.proofs.Room.{place_short}

-- A usage's record has a kind's command, so its kind says which.

module _ {code : CodeSetting} {s : List ℕ} {a b : ℕ} (R : Ready code s a b) (k : Kind) where
  pub left_of_kind : k ≡ kind_of (command_in s a) → command_in s a ≡ command_of k
  left_of_kind e = kind_says R.t s a R.r R.lo R.mid k e R.two.left

  pub right_of_kind : k ≡ kind_of (command_in s b) → command_in s b ≡ command_of k
  right_of_kind e = kind_says R.u s b R.r R.mid R.hi k e R.two.right

-- rule 1
pub begins_unused : (code : CodeSetting) (s : List ℕ) (rep : Report) (a d b : ℕ) (st : State) → command_in s b ≡ 0 → st ≡ finished_state a 1 → Begins code s a d b rep s rep (Ok st)
begins_unused code s rep a d b st none e = rw e (record {
  next = λ setting known t u r lo mid hi two short. go setting (right_unused two none) t r lo mid hi two short;
})
  where
    go : (setting : Setting) {u : Usage} → IsUnused u → (t : Usage) (r : ℕ → ℕ) (lo mid hi : ℕ) → Two (length setting.table) s a b r lo mid hi t u
        → Short rep.at (after [] 1 (place_by_kind setting (place setting) t d u))
        → Next setting (after [] 1 (place_by_kind setting (place setting) t d u)) (ground s r lo hi rep) (nodes t + nodes u) s rep a (finished_state a 1)
    go setting (is_unused_lem z) t r lo mid hi two short = next_kept setting two _ [] (emitted_nothing rep (omega (arith, short.0)))

module _ (code : CodeSetting) (s : List ℕ) (rep : Report) (a d b : ℕ) (za zb : MaxSize) (ea : size_of za ≡ size_in s a) (eb : size_of zb ≡ size_in s b) where
  -- what the placing is
  by_sizes : {n : ℕ} {r : ℕ → ℕ} {lo mid hi : ℕ} (k : ℕ) → k ≡ size_refusal (size_of za) d (size_of zb) → (setting : Setting) (t u : Usage) → Two n s a b r lo mid hi t u
      → place setting t d u ≡ unless_refused k (after [] 1 (place_by_kind setting (place setting) t d u))
  by_sizes k ek setting t u two = place_is setting t d u ∙ rw (ek, ea, eb, left_size two, right_size two) refl

  pub began_refused : (e : SizeRefusal) → number_of e ≡ size_refusal (size_of za) d (size_of zb) → Began code s a d b rep s rep (Err e)
  began_refused e ek = record {
    next = λ setting known t u r lo mid hi two.
        (by_sizes (number_of e) ek setting t u two ∙ refuses e (after [] 1 (place_by_kind setting (place setting) t d u)), kept_nothing rep);
  }
    where
      refuses : (e : SizeRefusal) (x : Result Usage) → unless_refused (number_of e) x ≡ refused (number_of e)
      refuses Outgrown x = refl
      refuses Past32 x = refl

  pub began_fitting : (s' : List ℕ) (rep' : Report) (r : Returned State SizeRefusal) → NoWrap rep.at (nodes_at s a + nodes_at s b) → 0 ≡ size_refusal (size_of za) d (size_of zb)
      → Begins code s a d b rep s' rep' r → Began code s a d b rep s' rep' r
  began_fitting s' rep' r near fits B = record {
    next = λ setting known t u rank lo mid hi two.
        let is : place setting t d u ≡ after [] 1 (place_by_kind setting (place setting) t d u) = by_sizes 0 fits setting t u two in
        rw is (B.next setting known t u rank lo mid hi two (rw is at (place_short setting t d u rep.at (omega (arith, two.few)) (omega arith))));
  }
