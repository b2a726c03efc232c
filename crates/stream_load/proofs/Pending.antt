-- What is left of a usage behind one of its nodes is a list of entries: an array's element, which has no offset in front, a map's
-- entries, or what was left already. So one list takes the place of the levels that are open.
-- Assumes nothing.
use Prim.Native.Nat.{ℕ, suc, ◌+◌}
use mathlib.Core.Path.{◌≡◌, refl, sym, ◌∙◌}
use mathlib.Core.Bool.{true, false}
use mathlib.Core.List.{List, [], ◌++◌, append_assoc}
use native.Mathlib.Omega.{arith}
use Rattle.definitions.specs.If.{when◌then◌else◌}
use Rattle.definitions.specs.Usage.{Usage, unused, leaf, map, array, Entries, none, entry, nodes, nodes_in, ◌<+>◌}
use Rattle.definitions.specs.Command.{head_of}
use Rattle.definitions.specs.Stream.{bytes, write_head, write_node, write_entries}
use Rattle.definitions.proofs.Nodes.{append_nodes}
use Rattle.stream_load.specs.Nodes.{front_behind, own}
use Rattle.stream_load.specs.Loading.{behind}

-- the bytes of what is left, where the first has `front` bytes of its offset
abbrev pub pending : ℕ → Entries → List ℕ
pending front none = []
pending front (entry o u es) = bytes front o ++ (write_node u ++ write_entries es)

pending_entries : (es : Entries) → pending 4 es ≡ write_entries es
pending_entries none = refl
pending_entries (entry o u es) = refl

write_append : (es fs : Entries) → write_entries (es <+> fs) ≡ write_entries es ++ write_entries fs
write_append none fs = refl
write_append (entry o u es) fs = rw (write_append es fs) (simp append_assoc)

regroup : (front head inner outer : List ℕ) {rest : List ℕ} → rest ≡ inner ++ outer → front ++ ((head ++ inner) ++ outer) ≡ (front ++ head) ++ rest
regroup front head inner outer e = rw e (simp append_assoc)

-- what is left begins with the first node's own bytes
pub own_first : (front o : ℕ) (u : Usage) (es : Entries) → pending front (entry o u es) ≡ own front o u ++ pending (front_behind (head_of u).command) (behind u es)
unfolding front_behind when◌then◌else◌
own_first front o (unused z) es = rw (pending_entries es) (sym (append_assoc (bytes front o) (write_head (head_of (unused z))) (write_entries es)))
own_first front o (leaf z true t) es = rw (pending_entries es) (sym (append_assoc (bytes front o) (write_head (head_of (leaf z true t))) (write_entries es)))
own_first front o (leaf z false t) es = rw (pending_entries es) (sym (append_assoc (bytes front o) (write_head (head_of (leaf z false t))) (write_entries es)))
own_first front o (map z fs) es = regroup (bytes front o) (write_head (head_of (map z fs))) (write_entries fs) (write_entries es) (pending_entries (fs <+> es) ∙ write_append fs es)
own_first front o (array z n e) es = regroup (bytes front o) (write_head (head_of (array z n e))) (write_node e) (write_entries es) refl

pub behind_nodes : (u : Usage) (es : Entries) → suc (nodes_in (behind u es)) ≡ nodes u + nodes_in es
behind_nodes (unused z) es = omega arith
behind_nodes (leaf z k t) es = omega arith
behind_nodes (map z fs) es = omega (arith, append_nodes fs es)
behind_nodes (array z n e) es = omega arith
