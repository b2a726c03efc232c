-- A usage that reads is within the widths of a stream, and so is what is left behind each of its nodes.
-- Assumes nothing.
use Prim.Native.Nat.{ℕ, suc, ◌^◌, ◌<◌}
use mathlib.Core.Bool.{true, false}
use native.Mathlib.Omega.{arith}
use Rattle.definitions.specs.If.{when◌then◌else◌}
use Rattle.definitions.specs.Usage.{In32, Usage, unused, leaf, map, array, Entries, none, entry, ◌<+>◌}
use Rattle.definitions.specs.Command.{head_of, command_at, argument_width}
use Rattle.definitions.proofs.Writable.{Writable, Ascending}
use Rattle.stream_load.specs.Nodes.{front_behind}
use Rattle.stream_load.specs.Loading.{behind}

-- Each number that is left is within its width: the first offset within `front` bytes, the others within four.

abbrev pub Fit : ℕ → Entries → Type 0
Fit front none = Unit {0}
Fit front (entry o u es) = (o < 256 ^ front) × Writable u × Fit 4 es

fit_append : (es fs : Entries) → Fit 4 es → Fit 4 fs → Fit 4 (es <+> fs)
fit_append none fs f g = g
fit_append (entry o u es) fs f g = (f.0, f.1, fit_append es fs f.2 g)

ascending_fit : (p : ℕ) (es : Entries) → Ascending p es → Fit 4 es
ascending_fit p none a = tt
ascending_fit p (entry o u es) a = (omega arith, a.2, ascending_fit (suc o) es a.3)

pub behind_fit : (u : Usage) (es : Entries) → Writable u → Fit 4 es → Fit (front_behind (head_of u).command) (behind u es)
unfolding front_behind when◌then◌else◌
behind_fit (unused z) es w f = f
behind_fit (leaf z true t) es w f = f
behind_fit (leaf z false t) es w f = f
behind_fit (map z fs) es w f = fit_append fs es (ascending_fit 0 fs w.2) f
behind_fit (array z n e) es w f = (omega arith, w.3, f)

pub own_fits : (u : Usage) → Writable u → In32 (head_of u).size × ((head_of u).argument < 256 ^ argument_width (head_of u).command)
unfolding command_at
own_fits (unused z) w = (w, omega arith)
own_fits (leaf z true t) w = (w.0, omega arith)
own_fits (leaf z false t) w = (w.0, omega arith)
own_fits (map z es) w = (w.0, w.1)
own_fits (array z n e) w = (w.0, omega arith)
