-- A usage is read from its root on, so its record says its kind and its size.
-- Assumes nothing.
use Rattle.std.proofs.Common.{◌≡◌, ℕ, ◌≤◌, Bool, true, false, List, ap, ◌∙◌, arith}
use Rattle.definitions.specs.Usage.{Size, Usage, unused, leaf, map, array, Entries, size}
use Rattle.definitions.specs.Command.{head_of}
use Rattle.records.specs.Records.{command_in, size_in}
use Rattle.record_links.specs.Standing.{Stands}
use Rattle.record_links.proofs.Stands.{stands_root}
use Rattle.record_links.proofs.Shapes.{kind_says}
use Rattle.qptr.specs.Values.{command_of, kind_of}
use Rattle.qptr.specs.declared.Kind.{Kind}
use Rattle.support_cache.specs.Nodes.{UsageAt}

module _ (u : Usage) (s : List ℕ) (q : ℕ) (r : ℕ → ℕ) (lo hi : ℕ) (a : Stands u s q r lo hi) where
  root_command : command_in s q ≡ (head_of u).command
  root_command = (stands_root u s q r lo hi a).command

  pub size_is : size_in s q ≡ size u
  size_is = (stands_root u s q r lo hi a).size

-- what holds of the usages of each kind, with their command, holds of the usage
pub by_kind : (P : Usage → Type 0) (s : List ℕ) (q : ℕ) (r : ℕ → ℕ) (lo hi : ℕ) →
    ((z : Size) → command_in s q ≡ 0 → Stands (unused z) s q r lo hi → P (unused z)) →
    ((z : Size) (k : Bool) (t : ℕ) → (1 ≤ command_in s q) × (command_in s q ≤ 2) → Stands (leaf z k t) s q r lo hi → P (leaf z k t)) →
    ((z : Size) (es : Entries) → command_in s q ≡ 3 → Stands (map z es) s q r lo hi → P (map z es)) →
    ((z : Size) (n : ℕ) (e : Usage) → command_in s q ≡ 4 → Stands (array z n e) s q r lo hi → P (array z n e)) →
    (u : Usage) → Stands u s q r lo hi → P u
by_kind P s q r lo hi f g h i (unused z) a = f z (root_command (unused z) s q r lo hi a) a
by_kind P s q r lo hi f g h i (leaf z true t) a = let k = root_command (leaf z true t) s q r lo hi a in g z true t (omega arith, omega arith) a
by_kind P s q r lo hi f g h i (leaf z false t) a = let k = root_command (leaf z false t) s q r lo hi a in g z false t (omega arith, omega arith) a
by_kind P s q r lo hi f g h i (map z es) a = h z es (root_command (map z es) s q r lo hi a) a
by_kind P s q r lo hi f g h i (array z n e) a = i z n e (root_command (array z n e) s q r lo hi a) a

pub on_map : (P : Usage → Type 0) (s : List ℕ) (q : ℕ) (r : ℕ → ℕ) (lo hi : ℕ) → command_in s q ≡ 3 →
    ((z : Size) (es : Entries) → Stands (map z es) s q r lo hi → P (map z es)) → (u : Usage) → Stands u s q r lo hi → P u
on_map P s q r lo hi k f =
    by_kind P s q r lo hi (λ z c a. absurd (omega arith)) (λ z l t c a. absurd (omega arith)) (λ z es c a. f z es a) (λ z n e c a. absurd (omega arith))

pub on_array : (P : Usage → Type 0) (s : List ℕ) (q : ℕ) (r : ℕ → ℕ) (lo hi : ℕ) → command_in s q ≡ 4 →
    ((z : Size) (n : ℕ) (e : Usage) → Stands (array z n e) s q r lo hi → P (array z n e)) → (u : Usage) → Stands u s q r lo hi → P u
on_array P s q r lo hi k f =
    by_kind P s q r lo hi (λ z c a. absurd (omega arith)) (λ z l t c a. absurd (omega arith)) (λ z es c a. absurd (omega arith)) (λ z n e c a. f z n e a)

-- its record has a node's command, so its kind says which
pub command_of_kind : (u : Usage) (s : List ℕ) (q : ℕ) (r : ℕ → ℕ) (lo hi : ℕ) {k : Kind} → Stands u s q r lo hi → k ≡ kind_of (command_in s q) → (v : Kind) → k ≡ v → command_in s q ≡ command_of v
command_of_kind u s q r lo hi {k} a x v e = kind_says u s q r lo hi k x a ∙ ap command_of e

module _ {s : List ℕ} {q : ℕ} {k : Kind} (w : UsageAt s q) (x : k ≡ kind_of (command_in s q)) where
  pub command_is : (v : Kind) → k ≡ v → command_in s q ≡ command_of v
  command_is = command_of_kind w.usage s q w.rank w.lo w.hi w.stands x
