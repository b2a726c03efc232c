-- `conflicts` meets its contract: an Opaque is the same as another top where their first bytes and their types are.
use mathlib.Core.Path.{ap}
use native.Mathlib.Omega.{arith}
use Rattle.definitions.specs.Command.{Command}
use Rattle.definitions.proofs.Written.{Bytes}
use Rattle.call_inputs.proofs.FirstBytes.{some_bytes, opaque_bytes, other_bytes, other_kind, told_by}
use Rattle.call_inputs.proofs.conflicts.Goals as goal

pub bounds-first-0 : goal.bounds-first-0
bounds-first-0 c =
    let first-bytes : Bytes c.args.first.now = λ k. (c.type_inv.first k).fits in
    some_bytes c.args.first.now first-bytes c.requires.first_is

pub bounds-second-0 : goal.bounds-second-0
bounds-second-0 c =
    let second-bytes : Bytes c.args.second.now = λ k. (c.type_inv.second k).fits in
    some_bytes c.args.second.now second-bytes c.requires.second_is

pub returns-then-first-second : goal.returns-then-first-second
returns-then-first-second c =
    let first-bytes : Bytes c.args.first.now = λ k. (c.type_inv.first k).fits in
    let second-bytes : Bytes c.args.second.now = λ k. (c.type_inv.second k).fits in
    let a = c.args in other_kind a.first.now a.second.now first-bytes second-bytes c.if-first-second.true

pub number-requires : goal.number-requires
number-requires c =
    let first-bytes : Bytes c.args.first.now = λ k. (c.type_inv.first k).fits in
    opaque_bytes c.args.first.now first-bytes (ap (λ (r : Command). r.argument) c.of-width.ensures) c.requires.first_is

pub number-requires-2 : goal.number-requires-2
number-requires-2 c =
    let first-bytes : Bytes c.args.first.now = λ k. (c.type_inv.first k).fits in
    let second-bytes : Bytes c.args.second.now = λ k. (c.type_inv.second k).fits in
    other_bytes c.args.first.now c.args.second.now first-bytes second-bytes (ap (λ (r : Command). r.argument) c.of-width.ensures) c.requires (omega (arith, c.if-first-second.false))

pub returns : goal.returns
returns c =
    let first-bytes : Bytes c.args.first.now = λ k. (c.type_inv.first k).fits in
    let second-bytes : Bytes c.args.second.now = λ k. (c.type_inv.second k).fits in
    let a = c.args in
    rw (c.number.ensures, c.number-2.ensures)
    (told_by a.first.now a.second.now first-bytes second-bytes (ap (λ (r : Command). r.argument) c.of-width.ensures) (omega (arith, c.if-first-second.false)))
