-- Ranks of two intervals that change places.
-- Assumes nothing.
use Rattle.std.specs.Prelude.{ℕ, ◌+◌, ◌-◌, ltb}
use Rattle.definitions.specs.If.{when◌then◌else◌}

-- those from c to m and those from m to e have changed places
unfoldable pub spin : ℕ → ℕ → ℕ → ℕ → ℕ
spin c m e x = when ltb x c then x else when ltb x m then x + (e - m) else when ltb x e then x - (m - c) else x

abbrev pub rotated : (ℕ → ℕ) → ℕ → ℕ → ℕ → ℕ → ℕ
rotated r c m e i = spin c m e (r i)
