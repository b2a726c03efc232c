-- A usage and its root's command tell the same kind, so a record's command says what stands there.
-- Assumes nothing.
use Prim.Native.Nat.{ℕ, suc}
use mathlib.Core.Path.{◌≡◌, refl, sym, ap, ◌∙◌}
use mathlib.Core.List.{List}
use Rattle.definitions.specs.Usage.{Usage, map, array, Entries, size}
use Rattle.qptr.specs.Values.{command_of, kind_of}
use Rattle.qptr.specs.declared.Kind.{Kind}
use Rattle.qptr.proofs.Nodes.{kind_head}
use Rattle.records.specs.Records.{command_in, child_in, argument_in}
use Rattle.record_links.specs.Standing.{Finger, Stands, Row}
use Rattle.record_links.proofs.Stands.{stands_root}
use Rattle.record_links.proofs.ByCommand.{IsMap, is_map, IsArray, is_array, map_of as map_kind, array_of as array_kind}

-- its kind says the command
pub kind_says : (u : Usage) (s : List ℕ) (q : ℕ) (r : ℕ → ℕ) (lo hi : ℕ) (k : Kind) → k ≡ kind_of (command_in s q) → Stands u s q r lo hi → command_in s q ≡ command_of k
kind_says u s q r lo hi k e h = let is = (stands_root u s q r lo hi h).command in is ∙ kind_head k u (e ∙ ap kind_of is)

pub map_of : (u : Usage) (s : List ℕ) (q : ℕ) (r : ℕ → ℕ) (lo hi : ℕ) → command_in s q ≡ 3 → Stands u s q r lo hi → (es : Entries) × (u ≡ map (size u) es) × Finger es s q × Row es s (child_in s q) 0 r (suc (r q)) hi
unfolding Stands
map_of u s q r lo hi k h = go (map_kind u (sym (stands_root u s q r lo hi h).command ∙ k)) h
  where
    go : {v : Usage} → IsMap v → Stands v s q r lo hi → (es : Entries) × (v ≡ map (size v) es) × Finger es s q × Row es s (child_in s q) 0 r (suc (r q)) hi
    go (is_map z es) h = (es, refl, h.1, h.2)

pub array_of : (u : Usage) (s : List ℕ) (q : ℕ) (r : ℕ → ℕ) (lo hi : ℕ) → command_in s q ≡ 4 → Stands u s q r lo hi → (e : Usage) × (u ≡ array (size u) (argument_in s q) e) × Stands e s (child_in s q) r (suc (r q)) hi
unfolding Stands
array_of u s q r lo hi k h = go (array_kind u (sym (stands_root u s q r lo hi h).command ∙ k)) h
  where
    go : {v : Usage} → IsArray v → Stands v s q r lo hi → (e : Usage) × (v ≡ array (size v) (argument_in s q) e) × Stands e s (child_in s q) r (suc (r q)) hi
    go (is_array z n e) h = (e, ap (λ (x : ℕ). array z x e) (sym h.1), h.2)
