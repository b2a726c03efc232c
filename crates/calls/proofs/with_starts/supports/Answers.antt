-- `supports` meets its contract: the refusals come in their order, and what is asked about is the usage that was read.
use mathlib.Core.Path.{refl, sym, ◌∙◌}
use native.Mathlib.Omega.{arith}
use Rattle.std.proofs.lemmas.Result.{err_from_is_err_and}
use Rattle.layout.proofs.Uses.{holds_whole}
use Rattle.call_inputs.proofs.Meeting.{told_as}
use Rattle.calls.proofs.Memories.{Memory, found, lost}
use Rattle.calls.proofs.Loads.{loadable}
use Rattle.calls.proofs.Supporting.{supports_tableless, supports_broken, supports_unknown, supports_abstract, supports_many, supports_said, memory_askable, memory_supported}
use Rattle.calls.proofs.with_starts.supports.Goals as goal
use Rattle.calls.proofs.with_starts.supports.Goals.{In_ok-found}

memory : (c : In_ok-found) → Memory c.args.s.now c.in_ok-found.found.nodes c.in_ok-found.found.types
memory c = found c.args.s.now (sym c.in_ok-found.ensures.ok_part ∙ c.memory.ensures)

pub returns-in_err-types : goal.returns-in_err-types
returns-in_err-types c =
    let p = err_from_is_err_and c.from_residual.result c.from_residual.ensures.1 in
    rw (p.1, p.2) (supports_tableless c.in_err-types.ensures c.args.choices c.args.ty c.args.offset c.args.s.now)

pub returns-in_err-found : goal.returns-in_err-found
returns-in_err-found c =
    let p = err_from_is_err_and c.from_residual-in_err-found.result c.from_residual-in_err-found.ensures.1 in
    let none = c.in_err-found.ensures.ok_part in
    let a = c.args in
    rw (p.1, p.2, told_as c.memory.result c.in_err-found.ensures.value none)
    (sym (supports_broken c.in_ok-types.ensures.good a.choices a.ty a.offset a.s.now (lost a.s.now (sym none ∙ c.memory.ensures))))

pub returns-in_err-known_types : goal.returns-in_err-known_types
returns-in_err-known_types c =
    let p = err_from_is_err_and c.from_residual-in_err-known_types.result c.from_residual-in_err-known_types.ensures.1 in
    let unknown = c.in_err-known_types.ensures in
    let m = memory (goal.at.returns-in_err-known_types c).In_ok-found in
    rw (p.1, p.2, unknown.0) (sym (supports_unknown c.in_ok-types.ensures.good c.args.choices c.args.ty c.args.offset m c.max.ensures c.from.ensures unknown.1))

pub returns-then-not-is_concrete : goal.returns-then-not-is_concrete
returns-then-not-is_concrete c =
    let m = memory (goal.at.returns-then-not-is_concrete c).In_ok-found in
    sym
    (supports_abstract c.in_ok-types.ensures.good c.args.choices c.args.ty c.args.offset m c.max.ensures c.from.ensures c.in_ok-known_types.ensures (holds_whole refl refl)
    c.is_concrete.ensures c.if-not-is_concrete.true)

pub returns-in_err-few_nodes : goal.returns-in_err-few_nodes
returns-in_err-few_nodes c =
    let p = err_from_is_err_and c.from_residual-in_err-few_nodes.result c.from_residual-in_err-few_nodes.ensures.1 in
    let many = c.in_err-few_nodes.ensures in
    let m = memory (goal.at.returns-in_err-few_nodes c).In_ok-found in
    rw (p.1, p.2, many.0)
    (sym
    (supports_many c.in_ok-types.ensures.good c.args.choices c.args.ty c.args.offset m c.max.ensures c.from.ensures c.in_ok-known_types.ensures (holds_whole refl refl)
    c.is_concrete.ensures c.if-not-is_concrete.false many.1))

pub load-requires : goal.load-requires
load-requires c =
    loadable (memory (goal.at.load-requires c).In_ok-found) c.in_ok-few_nodes.ensures (omega (arith, c.in_ok-types.ensures.good.enough, c.memory.auto.window))

pub supports_usage_at_offset-requires : goal.supports_usage_at_offset-requires
supports_usage_at_offset-requires c =
    let t = c.in_ok-types.ensures.good in
    memory_askable t _ c.args.ty c.args.offset (memory (goal.at.supports_usage_at_offset-requires c).In_ok-found) c.max.ensures c.from.ensures c.in_ok-known_types.ensures
    (holds_whole refl refl) c.load.ensures c.in_ok-few_nodes.ensures (omega (arith, t.enough, c.load.auto.work, c.memory.auto.window))

pub returns : goal.returns
returns c =
    let t = c.in_ok-types.ensures.good in
    let m = memory (goal.at.returns c).In_ok-found in
    rw
    (memory_supported t c.args.choices c.args.ty c.args.offset m c.max.ensures c.from.ensures c.in_ok-known_types.ensures (holds_whole refl refl) c.load.ensures
    c.supports_usage_at_offset.ensures.supports)
    (sym
    (supports_said t c.args.choices c.args.ty c.args.offset m c.max.ensures c.from.ensures c.in_ok-known_types.ensures (holds_whole refl refl)
    c.is_concrete.ensures c.if-not-is_concrete.false c.in_ok-few_nodes.ensures))
