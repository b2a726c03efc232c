-- What is remembered of questions: each node has the last one that went past the first tests, and a list has others, until later ones
-- take their places.
-- Assumes nothing.
use Rattle.std.specs.Prelude.{◌≡◌, ℕ, ◌+◌, ◌*◌, ◌<◌, Bool, true, false, ◌⊎◌, List, Contains, ◌==◌}
use Rattle.definitions.specs.Usage.{Size, fixed, dynamic}
use Rattle.records.specs.Records.{tag_in, past_in, Marked}
use Rattle.qptr.specs.declared.Kind.{Kind}
use Rattle.qptr.specs.declared.Kind.TheVariants.{Unused}
use Rattle.support_cache.specs.declared.CachedAnswer.{CachedAnswer}

-- A tag is 0, or a number doubled and one more for no, or two for yes. A node's is that of the type.
abbrev pub tag_of : ℕ → Bool → ℕ
tag_of k false = k * 2 + 1
tag_of k true = k * 2 + 2

-- an answer about this number, at this offset
abbrev pub cached_answer : ℕ → ℕ → Bool → CachedAnswer
cached_answer k at b = record { tag = tag_of k b; past = at }

-- In a list the number is of node and type, wherever the answer stands.
abbrev pub In : List CachedAnswer → ℕ → ℕ → ℕ → Bool → Type 0
In d ty at q b = Contains d (cached_answer (q * 1024 + ty) at b)

-- it is the question that node q remembers
pub record Marks (ty at : ℕ) (s : List ℕ) (q : ℕ) (b : Bool) : Type 0 where
  pub tag : tag_in s q ≡ tag_of ty b
  pub past : past_in s q ≡ at

-- What the functions say

-- the node or the list has this answer
abbrev pub Recollects : ℕ → ℕ → List ℕ → ℕ → List CachedAnswer → Bool → Type 0
Recollects ty at s q d b = Marks ty at s q b ⊎ In d ty at q b

-- the list has this answer, or nothing, that it did not have
pub record Inserts (d d' : List CachedAnswer) (ty at q : ℕ) (b : Bool) : Type 0 where
  pub each : (t o i : ℕ) (c : Bool) → t < 1024 → In d' t o i c → In d t o i c ⊎ ((t ≡ ty) × (o ≡ at) × (i ≡ q) × (c ≡ b))

pub record Remembers (ty at : ℕ) (s s' : List ℕ) (q : ℕ) (d d' : List CachedAnswer) (b : Bool) : Type 0 where
  pub node : Marked s s' q (tag_of ty b) at
  pub list : Inserts d d' ty at q b

-- a usage of this kind and size is of fixed size 0, and not Unused
abbrev pub is_empty : Kind → Size → Bool
is_empty k dynamic = false
is_empty Unused (fixed n) = false
is_empty k (fixed n) = n == 0
