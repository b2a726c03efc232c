-- A map's entries are linked one to the next, so each is asked behind the link of the one before it: until one is not supported,
-- what is said of all is what is said of those that are left.
-- Assumes nothing.
use Prim.Native.Nat.{ℕ, suc, ◌<◌}
use mathlib.Core.Path.{◌≡◌, refl, sym, ap, ◌∙◌, subst}
use mathlib.Core.Bool.{Bool, true, false, ◌&&◌}
use mathlib.Core.List.{List}
use Rattle.definitions.specs.Usage.{Size, map, Entries}
use Rattle.definitions.specs.Support.{entries_supported, supports}
use Rattle.records.specs.Records.{child_in, next_in}
use Rattle.record_links.specs.Standing.{Stands, Row}
use Rattle.record_links.proofs.Rows.{Head, head, end_0}
use Rattle.support_cache.proofs.Linked.{Linked, entry_usage}
use Rattle.support.specs.Askable.{ConcreteAskable}
use Rattle.support.specs.Supported.{InLayout, EntrySupported, EntriesSupported}
use Rattle.layout.specs.declared.setting.Setting.{Setting as CodeSetting}

-- what is said of all entries is said of those that are left
abbrev pub Same : CodeSetting → ℕ → ℕ → Entries → Entries → Type 0
Same code ty at es left = InLayout code ty λ st cs. entries_supported st (supports st) ty cs at es ≡ entries_supported st (supports st) ty cs at left

-- of these entries, some are left from record e on
pub record Left (code : CodeSetting) (ty at : ℕ) (s : List ℕ) (e : ℕ) (r : ℕ → ℕ) (hi : ℕ) (es : Entries) : Type 0 where
  pub left : Entries
  pub lo : ℕ
  pub stand : Row left s e 0 r lo hi
  pub same : Same code ty at es left

-- so it is of each map that is record q
pub record Walked (code : CodeSetting) (ty at : ℕ) (s : List ℕ) (q e : ℕ) : Type 0 where
  pub left : (z : Size) (es : Entries) (r : ℕ → ℕ) (lo hi : ℕ) → Stands (map z es) s q r lo hi → Left code ty at s e r hi es

-- the first of them
first_left : {code : CodeSetting} {ty at : ℕ} {s : List ℕ} {e : ℕ} (es : Entries) (r : ℕ → ℕ) (hi : ℕ) → (e ≡ 0 → ⊥) → (h : Left code ty at s e r hi es) → Head h.left s e 0 r h.lo hi
first_left {s = s} {e = e} es r hi ne h = head h.left s e 0 r h.lo hi ne h.stand

module _ {code : CodeSetting} {ty at : ℕ} {s : List ℕ} {q e : ℕ} where
  pub walk_starts : (e ≡ child_in s q) × (e < 65536) → Walked code ty at s q e
  unfolding Stands
  walk_starts x = record {
    left = λ z es r lo hi a. record {
      left = es;
      lo = suc (r q);
      stand = subst (λ (y : ℕ). Row es s y 0 r (suc (r q)) hi) (sym x.0) a.2;
      same = λ st k b n d cs l. refl;
    };
  }

  module _ (w : Walked code ty at s q e) where
    module _ (ne : e ≡ 0 → ⊥) {v : Bool} (g : EntrySupported code ty at s e v) where
      says : (es : Entries) (r : ℕ → ℕ) (hi : ℕ) (h : Left code ty at s e r hi es) →
          InLayout code ty λ st cs. entries_supported st (supports st) ty cs at es ≡ (v && entries_supported st (supports st) ty cs at (first_left es r hi ne h).rest)
      says es r hi h st k b n d cs i =
          let f = first_left es r hi ne h in
          h.same st k b n d cs i
          ∙ ap (λ (x : Entries). entries_supported st (supports st) ty cs at x) f.is
          ∙ ap (λ (x : Bool). x && entries_supported st (supports st) ty cs at f.rest) (sym (g.is st k b n d cs i f.u r h.lo f.m f.stands))

      pub walk_goes_on : {m : ℕ} → m ≡ next_in s e → v ≡ true → Walked code ty at s q m
      walk_goes_on {m} x t = record {
        left = λ z es r lo hi a.
            let h = w.left z es r lo hi a in
            let f = first_left es r hi ne h in
            record {
              left = f.rest;
              lo = f.m;
              stand = subst (λ (y : ℕ). Row f.rest s y 0 r f.m hi) (sym x) f.row;
              same = λ st k b n d cs i. rw (says es r hi h st k b n d cs i, t);
            };
      }

      pub walk_stops : v ≡ false → EntriesSupported code ty at s q false
      walk_stops t = record {
        is = λ st k b n d cs i z es r lo hi a. rw (says es r hi (w.left z es r lo hi a) st k b n d cs i, t);
      }

    pub walk_ends : e ≡ 0 → EntriesSupported code ty at s q true
    walk_ends z = record {
      is = λ st k b n d cs i y es r lo hi a.
          let h = w.left y es r lo hi a in
          rw (h.same st k b n d cs i, end_0 h.left s e r h.lo hi z h.stand);
    }

-- the entry at record e may be asked
pub asks_entry : {code : CodeSetting} {ty : ℕ} {s : List ℕ} {q e : ℕ} → Linked s q e → (e ≡ 0 → ⊥) → ConcreteAskable code ty s q → ConcreteAskable code ty s e
asks_entry L ne p = record {
  asks = record { type = p.asks.type; usage = entry_usage L ne };
  size = p.size;
  stride = p.stride;
  parts = p.parts;
  layout = p.layout;
}
