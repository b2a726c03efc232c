-- Each node's tag is taken away, the root's first and then those of its element or of its entries in turn: an entry remembers
-- nothing, or it is still to come.
-- Assumes nothing.
use Rattle.std.proofs.Common.{◌≡◌, ℕ, ◌<◌, ◌⊎◌, List, length, sym, ◌∙◌, subst, inl, inr, ⊎_elim, arith}
use Rattle.records.specs.Records.{command_in, next_in, child_in, tag_in, Marked}
use Rattle.record_links.specs.Rows.{nodes_at}
use Rattle.support_cache.specs.Nodes.{UsageAt, Unchanged, Along, Child, Below, Blank, Forgotten}
use Rattle.support_cache.proofs.Staying.{unchanged_none, unchanged_both, unchanged_marked, next_stays, child_back, below_back, usage_marked}
use Rattle.support_cache.proofs.Linked.{nodes_stay}

-- a node's tag, and that of each of its children's nodes
blank_by : (s : List ℕ) (q : ℕ) → tag_in s q ≡ 0 → ((e : ℕ) → Child s q e → Blank s e) → Blank s q
blank_by s q t f = record { tags = λ i h. go h t f }
  where
    go : {q i : ℕ} → Below s q i → tag_in s q ≡ 0 → ((e : ℕ) → Child s q e → Blank s e) → tag_in s i ≡ 0
    go (Below.root q) t f = t
    go (Below.inside q e i c h) t f = (f e c).tags i h

blank_stays : {s s' : List ℕ} {q : ℕ} → Unchanged s s' → ((i : ℕ) → tag_in s i ≡ 0 → tag_in s' i ≡ 0) → Blank s q → Blank s' q
blank_stays U f B = record { tags = λ i h. f i (B.tags i (below_back U h)) }

-- where a node has forgotten, its usage still stands, of as many nodes
module _ {s s₁ : List ℕ} {q : ℕ} (w : UsageAt s q) (m : Marked s s₁ q 0 0) (l : length s₁ ≡ length s) where
  pub marked_usage : UsageAt s₁ q
  marked_usage = usage_marked w m l

  pub marked_nodes : nodes_at s₁ q ≡ nodes_at s q
  marked_nodes = nodes_stay (unchanged_marked m l) w

-- the entries, of which those from record e on are still to come

pub record Clearing (s s' : List ℕ) (q e : ℕ) : Type 0 where
  pub records : Unchanged s s'
  pub stays : (i : ℕ) → tag_in s i ≡ 0 → tag_in s' i ≡ 0
  pub each : (x : ℕ) → Along s (child_in s q) x → Blank s' x ⊎ Along s e x

pub clearing_none : {s : List ℕ} {q e : ℕ} → (e ≡ child_in s q) × (e < 65536) → Clearing s s q e
clearing_none {s} x = record {
  records = unchanged_none;
  stays = λ i t. t;
  each = λ i h. inr (subst (λ (y : ℕ). Along s y i) (sym x.0) h);
}

next_or : (s : List ℕ) (B : ℕ → Type 0) {e x : ℕ} → B e → Along s e x → B x ⊎ Along s (next_in s e) x
next_or s B b (Along.first e ne) = inl b
next_or s B b (Along.later e x ne h) = inr h

pub clearing_one : {s s₁ s₂ : List ℕ} {q e n : ℕ} → Clearing s s₁ q e → Forgotten s₁ s₂ e → (n ≡ next_in s₂ e) × (n < 65536) → Clearing s s₂ q n
clearing_one {s} {s₁} {s₂} {q} {e} {n} C F x =
    let U = unchanged_both C.records F.records in
    let y : next_in s e ≡ n = sym (x.0 ∙ next_stays U e) in
    record {
      records = U;
      stays = λ i t. F.stays i (C.stays i t);
      each = λ i h. ⊎_elim
          (λ b. inl (blank_stays F.records F.stays b))
          (λ a. rw y at (next_or s (Blank s₂) {x = i} F.blank a))
          (C.each i h);
    }

no_record : (s : List ℕ) {e x : ℕ} → Along s e x → e ≡ 0 → ⊥
no_record s (Along.first e ne) z = ne z
no_record s (Along.later e x ne h) z = ne z

only_entries : (s : List ℕ) (q e : ℕ) → command_in s q ≡ 3 → Child s q e → Along s (child_in s q) e
only_entries s q e k (Child.element y x) = absurd (omega arith)
only_entries s q e k (Child.entry y h) = h

pub clearing_all : {s s' : List ℕ} {q e : ℕ} → command_in s q ≡ 3 → tag_in s q ≡ 0 → Clearing s s' q e → e ≡ 0 → Forgotten s s' q
clearing_all {s} {s'} {q} k t C z =
    let U = C.records in
    record {
      records = U;
      blank = blank_by s' q (C.stays q t) (λ i h. ⊎_elim
          (λ b. b)
          (λ a. absurd (no_record s a z))
          (C.each i (only_entries s q i k (child_back U h))));
      stays = C.stays;
    }
