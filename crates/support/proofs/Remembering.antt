-- What is remembered is true: what is recalled is an answer that was given, and what is remembered anew is the answer that was just given.
-- Assumes nothing.
use Prim.Native.Nat.{ℕ, ◌<◌}
use mathlib.Core.Path.{◌≡◌, refl, sym, ◌∙◌}
use mathlib.Core.Bool.{Bool}
use mathlib.Core.List.{List}
use mathlib.Core.Logic.{⊎_elim}
use native.Mathlib.Omega.{arith}
use native.Mathlib.Decide.{ℕ_discrete}
use lib.ListN.{length}
use Rattle.definitions.proofs.Earlier.{accepted}
use Rattle.records.specs.Records.{Marked}
use Rattle.support_cache.specs.Nodes.{Unchanged, Child, Below}
use Rattle.support_cache.specs.Cached.{tag_of, Marks, Recollects, Remembers}
use Rattle.support_cache.specs.declared.CachedAnswer.{CachedAnswer}
use Rattle.support_cache.proofs.Marking.{one_tag}
use Rattle.support_cache.proofs.Staying.{unchanged_none, unchanged_both, unchanged_marked, below_back}
use Rattle.support.specs.Askable.{TypeKnown}
use Rattle.support.specs.Supported.{Supports}
use Rattle.support.specs.Cache.{Recalls, Listed, CacheTrue, Kept}
use Rattle.support.proofs.Staying.{supports_after}
use Rattle.layout.specs.declared.setting.Setting.{Setting as CodeSetting}

-- a table has few types
pub type_few : {code : CodeSetting} {ty : ℕ} → TypeKnown code ty → ty < 1024
type_few {code} w = omega (arith, w.below, (accepted code.table.bytes.now w.setting.table w.known.read).few)

-- what the turns of a loop have left
pub record Turned (code : CodeSetting) (s s' : List ℕ) (d d' : List CachedAnswer) : Type 0 where
  pub kept : Kept code s s' d d'
  pub wide : length d' ≡ length d

module _ {code : CodeSetting} where
  pub kept_none : {s : List ℕ} {d : List CachedAnswer} → Kept code s s d d
  kept_none = record { records = unchanged_none; nodes = λ i h. h; list = λ h. h }

  pub kept_both : {s s₁ s₂ : List ℕ} {d d₁ d₂ : List CachedAnswer} → Kept code s s₁ d d₁ → Kept code s₁ s₂ d₁ d₂ → Kept code s s₂ d d₂
  kept_both A B = record {
    records = unchanged_both A.records B.records;
    nodes = λ i h. B.nodes i (A.nodes i h);
    list = λ h. B.list (A.list h);
  }

  pub memory_after : {s s' : List ℕ} {d d' : List CachedAnswer} {q : ℕ} → Kept code s s' d d' → CacheTrue code s q d → CacheTrue code s' q d'
  memory_after K M = record {
    nodes = λ i h. K.nodes i (M.nodes i (below_back K.records h));
    list = K.list M.list;
  }

  pub turned_none : {s : List ℕ} {d : List CachedAnswer} → Turned code s s d d
  turned_none = record { kept = kept_none; wide = refl }

  pub turned_more : {s s₁ s₂ : List ℕ} {d d₁ d₂ : List CachedAnswer} → Turned code s s₁ d d₁ → Kept code s₁ s₂ d₁ d₂ → length d₂ ≡ length d₁ → Turned code s s₂ d d₂
  turned_more T K w = record { kept = kept_both T.kept K; wide = w ∙ T.wide }

  -- of an element or an entry
  pub memory_part : {s : List ℕ} {d : List CachedAnswer} {q e : ℕ} → Child s q e → CacheTrue code s q d → CacheTrue code s e d
  memory_part {q = q} {e = e} c M = record { nodes = λ i h. M.nodes i (Below.inside q e i c h); list = M.list }

  -- what is recalled

  module _ {s : List ℕ} {q : ℕ} {d : List CachedAnswer} {ty at : ℕ} {b : Bool} (M : CacheTrue code s q d) where
    marked_answer : Marks ty at s q b → Supports code ty at s q b
    marked_answer m = rw m.past at ((M.nodes q (Below.root q)).is ty b m.tag)

    pub recalled : ty < 1024 → Recollects ty at s q d b → Supports code ty at s q b
    recalled l = ⊎_elim marked_answer (M.list.is ty at q b l)

  -- what is remembered anew

  module _ {ty at : ℕ} {s s' : List ℕ} {q : ℕ} {d d' : List CachedAnswer} {b : Bool} (R : Remembers ty at s s' q d d' b) (long : length s' ≡ length s) (g : Supports code ty at s q b) where
    W : Marked s s' q (tag_of ty b) at
    W = R.node

    U : Unchanged s s'
    U = unchanged_marked W long

    own_node : Recalls code s' q
    own_node = record {
      is = λ t c e.
          let x = one_tag t ty c b (sym W.tag ∙ e) in
          rw (W.past, x.0, x.1) (supports_after U g);
    }

    other_node : (i : ℕ) → (i ≡ q → ⊥) → Recalls code s i → Recalls code s' i
    other_node i ne h = record { is = λ t c e. rw (W.pasts i ne) (supports_after U (h.is t c (sym (W.tags i ne) ∙ e))) }

    listed_anew : Listed code s d → Listed code s' d'
    listed_anew h = record {
      is = λ t o i c l e. ⊎_elim
          (λ old. supports_after U (h.is t o i c l old))
          (λ x. rw (x.0, x.1, x.2, x.3) (supports_after U g))
          (R.list.each t o i c l e);
    }

    pub remembered_kept : Kept code s s' d d'
    remembered_kept = record {
      records = U;
      nodes = λ i h. elim (ℕ_discrete i q) [ yes e ↦ rw e own_node | no ne ↦ other_node i ne h ];
      list = listed_anew;
    }
