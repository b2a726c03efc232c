-- What follows the entries up to one of them is written into one record, the map's or that entry's: those entries stand as before,
-- and with what is linked behind them they are the map's. Its finger is that entry.
-- Assumes nothing.
use Prim.Native.Nat.{ℕ, suc, ◌+◌, ◌*◌, ◌<◌, ◌≤◌}
use mathlib.Core.Path.{◌≡◌, refl, sym, ap, ◌∙◌, subst}
use mathlib.Core.List.{List}
use lib.ListN.{length}
use native.Mathlib.Omega.{arith}
use Rattle.definitions.specs.Usage.{Size, Usage, map, Entries, none, entry}
use Rattle.records.specs.Records.{Cell, cell, next_in, child_in, offset_in, with_next, with_child, with_argument, Set}
use Rattle.record_links.specs.Standing.{Root, Stands, Row}
use Rattle.record_links.specs.Rows.{Up, link, onto}
use Rattle.record_links.specs.Frames.{Kept, Still}
use Rattle.record_links.proofs.Stands.{stands_root, root_same, stands_le, row_le, up_le, link_suc, link_zero, link_still, up_still, row_still, row_low}
use Rattle.record_links.proofs.Frames.{kept_trans, kept_set, kept_widen, apart}
use Rattle.record_links.proofs.Changes.{stands_relink, rehome}
use Rattle.record_links.proofs.Rows.{up_one, end_0, head}
use Rattle.record_links.proofs.Fingers.{map_finger}
use Rattle.place_maps.specs.Joining.{without, Passed, Hung, SuccessorSet, Made, Concatenated, Inserted}
use Rattle.place_maps.proofs.Inserting.{without_same, without_other}

-- What follows

hung_first : (es : Entries) (s s' : List ℕ) (a l q : ℕ) (r : ℕ → ℕ) (m : ℕ) → length s' ≡ length s → l ≡ 0 → Set s s' a (with_child q (cell s a)) → Up es s a l r (suc (r a)) m → Hung es s a l q r m s'
unfolding Up
hung_first none s s' a l q r m len z C h = record {
  up = h;
  follows = link_zero s' a l z ∙ ap (λ (y : Cell). y.child) C.here;
  command = ap (λ (y : Cell). y.command) C.here;
  size = ap (λ (y : Cell). y.size) C.here;
  kept = kept_set s s' r (r a) m a (with_child q (cell s a)) len (omega arith) h.1 C;
}
hung_first (entry o u es) s s' a l q r m len z C h = absurd (omega (arith, (stands_root u s l r h.0 m h.4).some))

hung_behind : (es : Entries) (s s' : List ℕ) (a l q : ℕ) (r : ℕ → ℕ) (m : ℕ) → length s' ≡ length s → (l ≡ 0 → ⊥) → Set s s' l (with_next q (cell s l)) → Up es s a l r (suc (r a)) m → Hung es s a l q r m s'
unfolding Up
hung_behind none s s' a l q r m len ne C h = absurd (ne h.0)
hung_behind (entry o u es) s s' a l q r m len ne C h =
    let R = stands_root u s l r h.0 m h.4 in
    let lm = up_le es s a h.1 r (suc (r a)) h.0 h.5 in
    let ca : cell s' a ≡ cell s a = C.others a (λ e. omega (arith, R.low, ap r e)) in
    let K : Kept s r s' r h.0 m = kept_set s s' r h.0 m l (with_next q (cell s l)) len R.low R.high C in
    let A : Still s r s' r (suc (r a)) h.0 = apart s s' r r h.0 m (suc (r a)) h.0 K (omega arith) in
    let cc : child_in s' a ≡ child_in s a = ap (λ (y : Cell). y.child) ca in
    record {
      up = up_one s' a o u es l h.1 r (suc (r a)) h.0 m (ap (λ (y : Cell). y.offset) C.here ∙ h.2) (link_still es s s' a h.1 r r (suc (r a)) h.0 cc A h.5 ∙ h.3)
          (stands_relink u s s' l r h.0 m (with_next q (cell s l)) len C refl refl refl refl h.4) (up_still es s s' a h.1 r r (suc (r a)) h.0 len cc A h.5);
      follows = link_suc s' a l R.some ∙ ap (λ (y : Cell). y.next) C.here;
      command = ap (λ (y : Cell). y.command) ca;
      size = ap (λ (y : Cell). y.size) ca;
      kept = kept_widen s s' r r h.0 m (r a) m (omega arith) (omega arith) K;
    }

pub linked_first : (s s' : List ℕ) (a l q : ℕ) → length s' ≡ length s → l ≡ 0 → Set s s' a (with_child q (cell s a)) → SuccessorSet s a l q s'
linked_first s s' a l q len z C = record { hung = λ es r m h. hung_first es s s' a l q r m len z C h }

pub linked_behind : (s s' : List ℕ) (a l q : ℕ) → length s' ≡ length s → (l ≡ 0 → ⊥) → Set s s' l (with_next q (cell s l)) → SuccessorSet s a l q s'
linked_behind s s' a l q len ne C = record { hung = λ es r m h. hung_behind es s s' a l q r m len ne C h }

-- The map

pub concatenates : (s s₁ s₂ : List ℕ) (a l q : ℕ) → length s₁ ≡ length s → length s₂ ≡ length s₁ → SuccessorSet s a l q s₁ → Set s₁ s₂ a (with_argument l (cell s₁ a)) → Concatenated s a l q s₂
concatenates s s₁ s₂ a l q l₁ l₂ L C = record {
  made = λ z es fs r lo m hi R U W.
      let H : Hung es s a l q r m s₁ = L.hung es r m U in
      let am = up_le es s a l r (suc (r a)) m U in
      let mh = row_le fs s q 0 r m hi W in
      let R₁ : Root s₁ a r lo hi 3 z = record { some = R.some; inside = omega (arith, R.inside); low = R.low; high = R.high; command = H.command ∙ R.command; size = H.size ∙ R.size } in
      let W₁ : Row fs s₁ q 0 r m hi = row_still fs s s₁ q 0 r r m hi l₁ (apart s s₁ r r (r a) m m hi H.kept (omega arith)) W in
      record {
        stands = map_finger z es fs s₁ s₂ a l r lo m hi l₂ C R₁ H.up (subst (λ (x : ℕ). Row fs s₁ x 0 r m hi) (sym H.follows) W₁);
        kept = kept_trans s s₁ s₂ r r r lo hi (kept_widen s s₁ r r (r a) m lo hi R.low mh H.kept) (kept_set s₁ s₂ r lo hi a (with_argument l (cell s₁ a)) l₂ R.low R.high C);
      };
}

-- One more entry

without_none : (o : ℕ) (es : Entries) (s : List ℕ) (a l : ℕ) (r : ℕ → ℕ) (lo hi : ℕ) → l ≡ 0 → Up es s a l r lo hi → without o es ≡ es
unfolding Up without
without_none o none s a l r lo hi z h = refl
without_none o (entry o' u es) s a l r lo hi z h = absurd (omega (arith, (stands_root u s l r h.0 hi h.4).some))

without_last : (o : ℕ) (es : Entries) (s : List ℕ) (a l : ℕ) (r : ℕ → ℕ) (lo hi : ℕ) → (offset_in s l ≡ o → ⊥) → Up es s a l r lo hi → without o es ≡ es
unfolding Up without
without_last o none s a l r lo hi ne h = refl
without_last o (entry o' u es) s a l r lo hi ne h = without_other o o' u es (λ e. ne (h.2 ∙ e))

behind : (s s' : List ℕ) (a l b o : ℕ) → ((es : Entries) (r : ℕ → ℕ) (lo hi : ℕ) → Up es s a l r lo hi → without o es ≡ es) → Concatenated s a l b s' → Inserted s a l b o s'
behind s s' a l b o same C = record {
  made = λ z es fs u r lo m hi R U W.
      subst (λ (x : Entries). Made (map z (onto x (entry o u fs))) s a r lo hi s') (sym (same es r (suc (r a)) m U)) (C.made z es (entry o u fs) r lo m hi R U W);
}

pub inserts_first : (s s' : List ℕ) (a l b o : ℕ) → l ≡ 0 → Concatenated s a l b s' → Inserted s a l b o s'
inserts_first s s' a l b o z C = behind s s' a l b o (λ es r lo hi U. without_none o es s a l r lo hi z U) C

pub inserts_behind : (s s' : List ℕ) (a l b o : ℕ) {o' : ℕ} → o' ≡ offset_in s l → (o' ≡ o → ⊥) → Concatenated s a l b s' → Inserted s a l b o s'
inserts_behind s s' a l b o eo ne C = behind s s' a l b o (λ es r lo hi U. without_last o es s a l r lo hi (λ e. ne (eo ∙ e)) U) C

-- b's record is copied over l's
pub inserts_over : (s s₁ s₂ : List ℕ) (a l b o : ℕ) {o' : ℕ} → (l ≡ 0 → ⊥) → o' ≡ offset_in s l → o' ≡ o → length s₁ ≡ length s → length s₂ ≡ length s₁
    → Set s s₁ l (cell s b) → Set s₁ s₂ a (with_argument l (cell s₁ a)) → Inserted s a l b o s₂
unfolding Up Stands onto
inserts_over s s₁ s₂ a l b o ne eo e l₁ l₂ C C₂ = record { made = λ z es fs u r lo m hi R U W. over z es fs u r lo m hi R U W }
  where
    over : (z : Size) (es fs : Entries) (u : Usage) (r : ℕ → ℕ) (lo m hi : ℕ) → Root s a r lo hi 3 z → Up es s a l r (suc (r a)) m → Row (entry o u fs) s b 0 r m hi
        → Made (map z (onto (without o es) (entry o u fs))) s a r lo hi s₂
    over z none fs u r lo m hi R U W = absurd (ne U.0)
    over z (entry o'' v es) fs u r lo m hi R U W =
        let n : ℕ = U.0 in
        let p : ℕ = U.1 in
        let T = stands_root v s l r n m U.4 in
        let an = up_le es s a p r (suc (r a)) n U.5 in
        let nm = stands_le v s l r n m U.4 in
        let me = stands_le u s b r m W.0 W.2 in
        let eh = row_le fs s (next_in s b) 0 r W.0 hi W.3 in
        let ca : cell s₁ a ≡ cell s a = C.others a (λ e. omega (arith, T.low, ap r e)) in
        let K : Kept s r s₁ r n m = kept_set s s₁ r n m l (cell s b) l₁ T.low T.high C in
        let A : Still s r s₁ r (suc (r a)) n = apart s s₁ r r n m (suc (r a)) n K (omega arith) in
        let cc : child_in s₁ a ≡ child_in s a = ap (λ (y : Cell). y.child) ca in
        let U₁ : Up es s₁ a p r (suc (r a)) n = up_still es s s₁ a p r r (suc (r a)) n l₁ cc A U.5 in
        let here : link s₁ a p ≡ l = link_still es s s₁ a p r r (suc (r a)) n cc A U.5 ∙ U.3 in
        let B : Stands u s₁ l r n W.0 = rehome u s s₁ b l r n W.0 m (cell s b) l₁ C refl refl refl refl T.some T.inside T.low T.high W.2 in
        let F : Row fs s₁ (link s₁ a l) 0 r W.0 hi = subst (λ (x : ℕ). Row fs s₁ x 0 r W.0 hi) (sym (link_suc s₁ a l T.some ∙ ap (λ (y : Cell). y.next) C.here))
        (row_still fs s s₁ (next_in s b) 0 r r W.0 hi l₁ (apart s s₁ r r n m W.0 hi K (omega arith)) W.3) in
        let G : Up (entry o u es) s₁ a l r (suc (r a)) W.0 = up_one s₁ a o u es l p r (suc (r a)) n W.0 (ap (λ (y : Cell). y.offset) C.here ∙ W.1) here B U₁ in
        let R₁ : Root s₁ a r lo hi 3 z = root_same s s₁ a r r lo hi lo hi 3 z l₁ ca R.low R.high R in
        let is : without o (entry o'' v es) ≡ es = ap (λ (x : ℕ). without o (entry x v es)) (sym U.2 ∙ sym eo ∙ e) ∙ without_same o v es in
        subst (λ (x : Entries). Made (map z (onto x (entry o u fs))) s a r lo hi s₂) (sym is)
        (record {
          stands = map_finger z (entry o u es) fs s₁ s₂ a l r lo W.0 hi l₂ C₂ R₁ G F;
          kept = kept_trans s s₁ s₂ r r r lo hi (kept_widen s s₁ r r n m lo hi (omega (arith, R.low)) (omega arith) K) (kept_set s₁ s₂ r lo hi a (with_argument l (cell s₁ a)) l₂ R.low R.high C₂);
        })

-- One less

module _ (s : List ℕ) (q o : ℕ) (inside : q * 32 + 32 ≤ length s) (linkable : length s ≤ 2097152) where
  pub passes_none : q ≡ 0 → Passed s q o q
  unfolding without
  passes_none z = record { small = omega arith; row = λ es r lo hi W. let e = end_0 es s q r lo hi z W in rw e (rw e at W) }

  module _ {o' : ℕ} (ne : q ≡ 0 → ⊥) (eo : o' ≡ offset_in s q) where
    pub passes_first : {p : ℕ} → o' ≡ o → p ≡ next_in s q → p < 65536 → Passed s q o p
    passes_first {p} e ep small = record {
      small = small;
      row = λ es r lo hi W.
          let H = head es s q 0 r lo hi ne W in
          let is : without o es ≡ H.rest = ap (without o) (H.is ∙ ap (λ (x : ℕ). entry x H.u H.rest) (sym eo ∙ e)) ∙ without_same o H.u H.rest in
          let le = stands_le H.u s q r lo H.m H.stands in
          subst (λ (x : Entries). Row x s p 0 r lo hi) (sym is)
          (row_low H.rest s p 0 r H.m lo hi (omega arith) (subst (λ (x : ℕ). Row H.rest s x 0 r H.m hi) (sym ep) H.row));
    }

    pub passes_all : (o' ≡ o → ⊥) → Passed s q o q
    passes_all other = record {
      small = omega arith;
      row = λ es r lo hi W.
          let H = head es s q 0 r lo hi ne W in
          let is : without o es ≡ es = ap (without o) H.is ∙ without_other o (offset_in s q) H.u H.rest (λ e. other (eo ∙ e)) ∙ sym H.is in
          subst (λ (x : Entries). Row x s q 0 r lo hi) (sym is) W;
    }
