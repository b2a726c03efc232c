-- Placing the entries one by one is placing them all: reports and pairings add up in any order.
-- Assumes nothing.
use Rattle.std.proofs.Common.{◌≡◌, ℕ, suc, ◌+◌, List, [], append-nil, refl, sym, ap, arith}
use Rattle.place_states.specs.declared.Pairing.TheVariants.{Place}
use Rattle.definitions.specs.Usage.{Size, Usage, map, Entries, none, entry}
use Rattle.definitions.specs.Table.{Setting}
use Rattle.definitions.specs.Place.{Result, refused, done, of_entry, of_rule, headed, after, and_then, place_entries, place_by_kind, place}
use Rattle.definitions.proofs.After.{after_nothing, after_both}
use Rattle.place_states.specs.Continuation.{entries, finish, resume, act}

module _ (st : Setting) where
  pub finish_none : (u : Usage) (w : List ℕ) (p : ℕ) → finish st (entries none) u w p ≡ done u (of_rule w) (suc p)
  unfolding finish
  finish_none u w p =
      let e : 1 + (p + 0) ≡ suc p = omega arith in
      cc (append-nil w)

  resume_of : (es : Entries) (o : ℕ) (w : List ℕ) (p : ℕ) (r : Result Usage)
      → resume st (entries es) o w p r ≡ after [] 1 (headed (after w p (and_then (of_entry o) r (λ last. place_entries st (place st) last es))))
  unfolding resume finish
  resume_of es o w p (refused k) = refl
  resume_of es o w p (done u w' p') =
      ap (λ (x : Result Usage). after [] 1 (headed x)) (sym (after_both w (of_entry o w') p p' (place_entries st (place st) u es)))

  pub resume_entry : (o : ℕ) (t u : Usage) (es : Entries) (w : List ℕ) (p : ℕ)
      → resume st (entries es) o w p (act st Place o t u) ≡ finish st (entries (entry o u es)) t w p
  unfolding finish act
  resume_entry o t u es w p = resume_of es o w p (place st t o u)

  pub finish_all : (z : Size) (es : Entries) (a : Usage) → finish st (entries es) a [] 0 ≡ after [] 1 (place_by_kind st (place st) a 0 (map z es))
  unfolding finish
  finish_all z es a = ap (λ (x : Result Usage). after [] 1 (headed x)) (after_nothing (place_entries st (place st) a es))
