-- `sound` meets its contract: the refusals come in their order, and what is tested is the usage that was read.
use mathlib.Core.Path.{sym, ◌∙◌}
use native.Mathlib.Omega.{arith}
use Rattle.std.proofs.lemmas.Result.{err_from_is_err_and}
use Rattle.call_inputs.proofs.Meeting.{told_as}
use Rattle.calls.proofs.Memories.{Memory, found, lost}
use Rattle.calls.proofs.Loads.{loadable}
use Rattle.calls.proofs.Sounding.{sound_tableless, sound_broken, sound_unknown, sound_many, sound_standing, sound_said}
use Rattle.calls.proofs.with_starts.sound.Goals as goal
use Rattle.calls.proofs.with_starts.sound.Goals.{In_ok-found}

memory : (c : In_ok-found) → Memory c.args.s.now c.in_ok-found.found.nodes c.in_ok-found.found.types
memory c = found c.args.s.now (sym c.in_ok-found.ensures.ok_part ∙ c.memory.ensures)

pub returns-in_err-types : goal.returns-in_err-types
returns-in_err-types c =
    let p = err_from_is_err_and c.from_residual.result c.from_residual.ensures.1 in
    rw (p.1, p.2) (sound_tableless c.in_err-types.ensures c.args.s.now)

pub returns-in_err-found : goal.returns-in_err-found
returns-in_err-found c =
    let p = err_from_is_err_and c.from_residual-in_err-found.result c.from_residual-in_err-found.ensures.1 in
    let none = c.in_err-found.ensures.ok_part in
    rw (p.1, p.2, told_as c.memory.result c.in_err-found.ensures.value none)
    (sym (sound_broken c.in_ok-types.ensures.good c.args.s.now (lost c.args.s.now (sym none ∙ c.memory.ensures))))

pub returns-in_err-known_types : goal.returns-in_err-known_types
returns-in_err-known_types c =
    let p = err_from_is_err_and c.from_residual-in_err-known_types.result c.from_residual-in_err-known_types.ensures.1 in
    let unknown = c.in_err-known_types.ensures in
    rw (p.1, p.2, unknown.0) (sym (sound_unknown c.in_ok-types.ensures.good (memory (goal.at.returns-in_err-known_types c).In_ok-found) unknown.1))

pub returns-in_err-few_nodes : goal.returns-in_err-few_nodes
returns-in_err-few_nodes c =
    let p = err_from_is_err_and c.from_residual-in_err-few_nodes.result c.from_residual-in_err-few_nodes.ensures.1 in
    let many = c.in_err-few_nodes.ensures in
    rw (p.1, p.2, many.0)
    (sym (sound_many c.in_ok-types.ensures.good (memory (goal.at.returns-in_err-few_nodes c).In_ok-found) c.in_ok-known_types.ensures many.1))

pub load-requires : goal.load-requires
load-requires c =
    loadable (memory (goal.at.load-requires c).In_ok-found) c.in_ok-few_nodes.ensures (omega (arith, c.in_ok-types.ensures.good.enough, c.memory.auto.window))

pub sound-requires : goal.sound-requires
sound-requires c =
    let t = c.in_ok-types.ensures.good in
    sound_standing t (memory (goal.at.sound-requires c).In_ok-found) c.in_ok-known_types.ensures c.in_ok-few_nodes.ensures c.load.ensures
    (omega (arith, t.enough, c.load.auto.work, c.memory.auto.window))

pub returns : goal.returns
returns c =
    sound_said c.in_ok-types.ensures.good (memory (goal.at.returns c).In_ok-found) c.in_ok-known_types.ensures c.in_ok-few_nodes.ensures c.load.ensures c.sound.ensures
