-- A node's own part as it is read: its command, its size and its argument, before anything that stands further down.
-- Assumes nothing.
use Rattle.std.specs.Prelude.{ℕ, ◌+◌, ◌≤◌, ◌<◌, ◌≡◌, Bool, List, [], ◌∷◌, Option, Some, None, ltb, eqb, length, drop}
use Rattle.definitions.specs.If.{when◌then◌else◌}
use Rattle.definitions.specs.Usage.{Size, Usage}
use Rattle.definitions.specs.Command.{Head, size_width, argument_width}
use Rattle.definitions.specs.Stream.{Read, broken, read, ◌then◌, number, read_size, body}
use Rattle.qptr.specs.Values.{size_of, part_of, command_of}
use Rattle.qptr.specs.declared.MaxSize.{MaxSize}
use Rattle.qptr.specs.declared.Node.{Node}
use Rattle.stream.specs.declared.own_part.HeaderAt.{HeaderAt}

-- nodes have commands up to 04, whose stride is not 0
abbrev pub own : ℕ → Size → ℕ → List ℕ → Read Head
own c s n rest =
    when ltb 0x04 c then broken
    else when eqb c 0x04 then (when eqb n 0 then broken else read (record { command = c; size = s; argument = n }) rest)
    else read (record { command = c; size = s; argument = n }) rest

-- r says whether a node has such a command and argument
abbrev pub Admits : ℕ → ℕ → Bool → Type 0
Admits c n r = (z : Size) (rest : List ℕ) → own c z n rest ≡ (when r then read (record { command = c; size = z; argument = n }) rest else broken)

-- the own part that the bytes begin with
unfoldable pub head : List ℕ → Read Head
head [] = broken
head (c ∷ bs) = read_size (size_width c) bs then λ s bs₁. number (argument_width c) bs₁ then λ n rest. own c s n rest

-- the node with this own part, of what follows it (`node_head`)
abbrev pub below : (List ℕ → Read Usage) → Head → List ℕ → Read Usage
below node h bs = body node h.command h.size h.argument bs

-- the size in w bytes at a place of s, or that there is none
abbrev pub SizeShows : ℕ → List ℕ → ℕ → Option MaxSize → Type 0
SizeShows w s at (Some z) = read_size w (drop at s) ≡ read (size_of z) (drop (at + w) s)
SizeShows w s at None = read_size w (drop at s) ≡ broken

-- the own part at a place of s
pub record PartAt (s : List ℕ) (at : ℕ) (node : Node) (end : ℕ) : Type 0 where
  pub reads : head (drop at s) ≡ read (part_of node) (drop end s)
  pub taken : at < end
  pub within : end ≤ length s

-- the own part at a place of s, or that there is none
abbrev pub Shows : List ℕ → ℕ → Option HeaderAt → Type 0
Shows s at (Some h) = PartAt s at h.node h.end
Shows s at None = head (drop at s) ≡ broken

-- the own part at a place of s, but for its size, which says whether there is one
pub record OutlineAt (s : List ℕ) (at : ℕ) (node : Node) (end : ℕ) : Type 0 where
  pub reads : head (drop at s) ≡ read_size (size_width (command_of node.kind)) (drop (at + 1) s) then λ z left. own (command_of node.kind) z node.argument (drop end s)
  pub taken : at + size_width (command_of node.kind) < end
  pub within : end ≤ length s

-- the same, or that there is none
abbrev pub Outlines : List ℕ → ℕ → Option HeaderAt → Type 0
Outlines s at (Some h) = OutlineAt s at h.node h.end
Outlines s at None = head (drop at s) ≡ broken
