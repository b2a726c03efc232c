-- Records of 32 bytes in a list of bytes, a record for each node: command and the size's flag (two bytes each), next sibling and
-- first child (two bytes each; 0 for none), nodes of its subtree as it was loaded, the size's number, argument (a leaf's type, an
-- array's stride, or the finger of a map), and its offset in the map that holds it. Two more words are spare.
-- Assumes nothing.
use Rattle.std.specs.Prelude.{ℕ, zero, suc, ◌+◌, ◌*◌, ◌≡◌, List}
use Rattle.definitions.specs.Usage.{Size, fixed, dynamic}
use Rattle.numbers.specs.Words.{number_at, word}

abbrev pub command_in : List ℕ → ℕ → ℕ
command_in s q = number_at 2 s (q * 32)

abbrev pub next_in : List ℕ → ℕ → ℕ
next_in s q = number_at 2 s (q * 32 + 4)

abbrev pub child_in : List ℕ → ℕ → ℕ
child_in s q = number_at 2 s (q * 32 + 6)

abbrev pub count_in : List ℕ → ℕ → ℕ
count_in s q = word s (q * 32 + 8)

-- flag 0 is dynamic
abbrev pub size_from : ℕ → ℕ → Size
size_from zero n = dynamic
size_from (suc f) n = fixed n

abbrev pub size_in : List ℕ → ℕ → Size
size_in s q = size_from (number_at 2 s (q * 32 + 2)) (word s (q * 32 + 12))

abbrev pub argument_in : List ℕ → ℕ → ℕ
argument_in s q = word s (q * 32 + 16)

abbrev pub offset_in : List ℕ → ℕ → ℕ
offset_in s q = word s (q * 32 + 20)

-- the spare words

abbrev pub tag_in : List ℕ → ℕ → ℕ
tag_in s q = word s (q * 32 + 24)

abbrev pub past_in : List ℕ → ℕ → ℕ
past_in s q = word s (q * 32 + 28)

-- what a record says, but for the spare words
pub record Cell : Type 0 where
  pub command : ℕ
  pub next : ℕ
  pub child : ℕ
  pub count : ℕ
  pub size : Size
  pub argument : ℕ
  pub offset : ℕ

-- record q
abbrev pub cell : List ℕ → ℕ → Cell
cell s q = record {
  command = command_in s q;
  next = next_in s q;
  child = child_in s q;
  count = count_in s q;
  size = size_in s q;
  argument = argument_in s q;
  offset = offset_in s q;
}

-- a record of these parts
abbrev pub full : ℕ → ℕ → ℕ → ℕ → Size → ℕ → ℕ → Cell
full k n l m z t o = record { command = k; next = n; child = l; count = m; size = z; argument = t; offset = o }

-- with one part changed

abbrev pub with_next : ℕ → Cell → Cell
with_next v c = record { command = c.command; next = v; child = c.child; count = c.count; size = c.size; argument = c.argument; offset = c.offset }

abbrev pub with_child : ℕ → Cell → Cell
with_child v c = record { command = c.command; next = c.next; child = v; count = c.count; size = c.size; argument = c.argument; offset = c.offset }

abbrev pub with_count : ℕ → Cell → Cell
with_count v c = record { command = c.command; next = c.next; child = c.child; count = v; size = c.size; argument = c.argument; offset = c.offset }

abbrev pub with_size : Size → Cell → Cell
with_size v c = record { command = c.command; next = c.next; child = c.child; count = c.count; size = v; argument = c.argument; offset = c.offset }

abbrev pub with_argument : ℕ → Cell → Cell
with_argument v c = record { command = c.command; next = c.next; child = c.child; count = c.count; size = c.size; argument = v; offset = c.offset }

abbrev pub with_offset : ℕ → Cell → Cell
with_offset v c = record { command = c.command; next = c.next; child = c.child; count = c.count; size = c.size; argument = c.argument; offset = v }

-- a leaf's: with another command and type
abbrev pub with_type : ℕ → ℕ → Cell → Cell
with_type k t c = record { command = k; next = c.next; child = c.child; count = c.count; size = c.size; argument = t; offset = c.offset }

-- a node as it is loaded: linked to nothing, with a count of one
abbrev pub alone : ℕ → Size → ℕ → ℕ → Cell
alone k z t o = record { command = k; next = 0; child = 0; count = 1; size = z; argument = t; offset = o }

-- record q has become c, and all others are as they were
pub record Set (s s' : List ℕ) (q : ℕ) (c : Cell) : Type 0 where
  pub here : cell s' q ≡ c
  pub others : (i : ℕ) → (i ≡ q → ⊥) → cell s' i ≡ cell s i

-- the spare words of record q are written, and nothing else
pub record Marked (s s' : List ℕ) (q t p : ℕ) : Type 0 where
  pub same : (i : ℕ) → cell s' i ≡ cell s i
  pub tag : tag_in s' q ≡ t
  pub past : past_in s' q ≡ p
  pub tags : (i : ℕ) → (i ≡ q → ⊥) → tag_in s' i ≡ tag_in s i
  pub pasts : (i : ℕ) → (i ≡ q → ⊥) → past_in s' i ≡ past_in s i
