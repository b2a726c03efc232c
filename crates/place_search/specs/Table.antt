-- The rows of a table, a row for an entry, and the record of the topmost of them that ends by an offset.
-- Assumes nothing.
use Rattle.std.specs.Prelude.{ℕ, zero, suc, ◌≡◌, Bool, true, false, List, get_or}
use Rattle.definitions.specs.Usage.{Size, fixed, Entries, none, entry, size}
use Rattle.definitions.specs.Place.{ends, ◌≤ˢ◌}
use Rattle.qptr.specs.Values.{size_of}
use Rattle.qptr.specs.declared.MaxSize.TheVariants.{Fixed}
use Rattle.records.specs.Records.{next_in}
use Rattle.place_search.specs.declared.Entry.{Entry}

-- what a row holds to which nothing was written
abbrev pub nothing_is : Entry
nothing_is = record { offset = 0; size = Fixed 0; node = 0 }

-- the entry ends by d
abbrev pub ends_by : Entry → ℕ → Bool
ends_by e d = ends e.offset (size_of e.size) ≤ˢ fixed d

abbrev pub pick : Bool → ℕ → ℕ → ℕ
pick true a b = a
pick false a b = b

-- of the rows below k, the record of the topmost that ends by d; 0 where none does
abbrev pub last_of : List Entry → ℕ → ℕ → ℕ
last_of t zero d = zero
last_of t (suc k) d = pick (ends_by (get_or t k nothing_is) d) (get_or t k nothing_is).node (last_of t k d)

-- the row e is the entry at record q, with this offset and size
pub record Tells (e : Entry) (o : ℕ) (z : Size) (q : ℕ) : Type 0 where
  pub offset : e.offset ≡ o
  pub size : size_of e.size ≡ z
  pub node : e.node ≡ q

-- the rows from place i on are these entries, which are linked from record q on
abbrev pub Filled : Entries → List Entry → ℕ → List ℕ → ℕ → Type 0
Filled none t i s q = Unit {0}
Filled (entry o u es) t i s q = Tells (get_or t i nothing_is) o (size u) q × Filled es t (suc i) s (next_in s q)
