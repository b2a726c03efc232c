-- What holds of whatever is answered: one predicate over results, and how it goes on from one rule to the next.
-- Assumes nothing.
use Prim.Native.Nat.{ℕ, zero, suc, ◌+◌}
use mathlib.Core.Path.{◌≡◌, refl, ap}
use mathlib.Core.List.{List, ◌++◌}
use native.Mathlib.Omega.{arith}
use Rattle.definitions.specs.Place
use Rattle.definitions.specs.Place.{Result, refused, done}

-- refused, where R holds; or answered, with P of what was made, of the report and of the pairings
pub data Answers {A : Type 0} (R : Type 0) (P : A → List ℕ → ℕ → Type 0) : Result A → Type 0 where
  barred : {k : ℕ} → R → Answers R P (refused k)
  answer : (a : A) (w : List ℕ) (p : ℕ) → P a w p → Answers R P (done a w p)

module _ {A : Type 0} {R : Type 0} {P : A → List ℕ → ℕ → Type 0} where
  pub answered : {x : Result A} {a : A} {w : List ℕ} {p : ℕ} → Answers R P x → x ≡ done a w p → P a w p
  answered (barred _) q = let z : ◌≡◌ {A = ℕ} 0 1 = cc in absurd (omega arith)
  answered {a} {w} {p} (answer a' w' p' h) q =
      let ea : a' ≡ a = cc in
      let ew : w' ≡ w = cc in
      let ep : p' ≡ p = cc in
      rw (← ea, ← ew, ← ep) h

  pub answers_map : {Q : A → List ℕ → ℕ → Type 0} {x : Result A} → Answers R P x
      → ((a : A) (w : List ℕ) (p : ℕ) → P a w p → Q a w p) → Answers R Q x
  answers_map (barred r) f = barred r
  answers_map (answer a w p h) f = answer a w p (f a w p h)

  pub headed_answers : {x : Result A} → Answers R (λ a w. P a (Place.of_rule w)) x → Answers R P (Place.headed x)
  headed_answers (barred r) = barred r
  headed_answers (answer a w p h) = answer a (Place.of_rule w) p h

  pub after_answers : {x : Result A} (w : List ℕ) (p : ℕ) → Answers R (λ a w' p'. P a (w ++ w') (p + p')) x → Answers R P (Place.after w p x)
  after_answers w p (barred r) = barred r
  after_answers w p (answer a w' p' h) = answer a (w ++ w') (p + p') h

  pub unless_answers : {x : Result A} (k : ℕ) → R → Answers R P x → Answers R P (Place.unless_refused k x)
  unless_answers zero r h = h
  unless_answers (suc k) r h = barred r

  pub under_answers : {B : Type 0} {x : Result B} (f : B → A) → Answers R (λ b. P (f b)) x → Answers R P (Place.under f x)
  under_answers f (barred r) = barred r
  under_answers f (answer b w p h) = answer (f b) w p h

  pub then_answers : {B : Type 0} {Q : B → List ℕ → ℕ → Type 0} {x : Result B} {next : B → Result A} (mark : List ℕ → List ℕ)
      → Answers R Q x → ((b : B) (w : List ℕ) (p : ℕ) → Q b w p → Answers R (λ a w' p'. P a (mark w ++ w') (p + p')) (next b))
      → Answers R P (Place.and_then mark x next)
  then_answers mark (barred r) on = barred r
  then_answers mark (answer b w p h) on = after_answers (mark w) p (on b w p h)

  -- two ways to go on that agree where P holds
  pub then_agree : {B : Type 0} {x : Result A} {f g : A → Result B} (mark : List ℕ → List ℕ) → Answers R P x
      → ((a : A) (w : List ℕ) (p : ℕ) → P a w p → f a ≡ g a) → Place.and_then mark x f ≡ Place.and_then mark x g
  then_agree mark (barred r) on = refl
  then_agree mark (answer a w p h) on = ap (Place.after (mark w) p) (on a w p h)
