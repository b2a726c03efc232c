-- Where each record says what it said, each usage stands where it stood, and its nodes are the same records.
-- Assumes nothing.
use Rattle.std.proofs.Common.{◌≡◌, ℕ, List, length, sym, refl, ap, ◌∙◌, subst, arith}
use Rattle.definitions.specs.Usage.{Usage}
use Rattle.records.specs.Records.{Cell, cell, command_in, child_in, next_in, Marked}
use Rattle.record_links.specs.Standing.{Stands}
use Rattle.record_links.proofs.Stands.{stands_marks}
use Rattle.support_cache.specs.Nodes.{UsageAt, Unchanged, Along, Child, Below}

pub unchanged_none : {s : List ℕ} → Unchanged s s
unchanged_none = record { len = refl; same = λ i. refl }

pub unchanged_both : {s s₁ s₂ : List ℕ} → Unchanged s s₁ → Unchanged s₁ s₂ → Unchanged s s₂
unchanged_both A B = record { len = B.len ∙ A.len; same = λ i. B.same i ∙ A.same i }

pub unchanged_marked : {s s' : List ℕ} {q t p : ℕ} → Marked s s' q t p → length s' ≡ length s → Unchanged s s'
unchanged_marked m l = record { len = l; same = m.same }

module _ {s s' : List ℕ} (U : Unchanged s s') where
  pub there : (u : Usage) (q : ℕ) (r : ℕ → ℕ) (lo hi : ℕ) → Stands u s q r lo hi → Stands u s' q r lo hi
  there u q r lo hi = stands_marks u s s' q r lo hi U.len U.same

  pub back : (u : Usage) (q : ℕ) (r : ℕ → ℕ) (lo hi : ℕ) → Stands u s' q r lo hi → Stands u s q r lo hi
  back u q r lo hi = stands_marks u s' s q r lo hi (sym U.len) (λ i. sym (U.same i))

  pub command_stays : (q : ℕ) → command_in s' q ≡ command_in s q
  command_stays q = ap (λ (c : Cell). c.command) (U.same q)

  pub next_stays : (q : ℕ) → next_in s' q ≡ next_in s q
  next_stays q = ap (λ (c : Cell). c.next) (U.same q)

  pub child_stays : (q : ℕ) → child_in s' q ≡ child_in s q
  child_stays q = ap (λ (c : Cell). c.child) (U.same q)

  pub offset_stays : (q : ℕ) → (cell s' q).offset ≡ (cell s q).offset
  offset_stays q = ap (λ (c : Cell). c.offset) (U.same q)

  abbrev pub usage_after : {q : ℕ} → UsageAt s q → UsageAt s' q
  usage_after {q} w = record {
    usage = w.usage;
    rank = w.rank;
    lo = w.lo;
    hi = w.hi;
    stands = there w.usage q w.rank w.lo w.hi w.stands;
    few = w.few;
    within = omega (arith, w.within, U.len);
    numbered = w.numbered;
  }

  along_back : {q i : ℕ} → Along s' q i → Along s q i
  along_back (Along.first q ne) = Along.first q ne
  along_back (Along.later q i ne h) = Along.later q i ne (subst (λ (x : ℕ). Along s x i) (next_stays q) (along_back h))

  pub child_back : {q e : ℕ} → Child s' q e → Child s q e
  child_back {q} (Child.element k x) = Child.element (sym (command_stays q) ∙ k) (x ∙ child_stays q)
  child_back {q} {e} (Child.entry k h) = Child.entry (sym (command_stays q) ∙ k) (subst (λ (x : ℕ). Along s x e) (child_stays q) (along_back h))

  pub below_back : {q i : ℕ} → Below s' q i → Below s q i
  below_back (Below.root q) = Below.root q
  below_back (Below.inside q e i c h) = Below.inside q e i (child_back c) (below_back h)

pub usage_marked : {s s' : List ℕ} {q i t p : ℕ} → UsageAt s q → Marked s s' i t p → length s' ≡ length s → UsageAt s' q
usage_marked w m l = usage_after (unchanged_marked m l) w
