-- What falls at each call of the layout test that asks another.
use Rattle.std.proofs.Common.{ℕ, ◌+◌, ◌*◌, List}
use Rattle.record_links.specs.Rows.{nodes_at}

-- the type, with the nodes of the usage at record q
abbrev pub together : ℕ → List ℕ → ℕ → ℕ
together ty s q = (ty + nodes_at s q) * 6
