-- `stream_load::load_own` meets its contract: each part is read where it stands, and the record says them.
use native.Mathlib.Omega.{arith}
use Rattle.stream_load.proofs.OwnRead.{head_inside, own_inside, own_loaded}
use Rattle.stream_load.proofs.load_own.Goals as goal

pub bounds-s-h : goal.bounds-s-h
bounds-s-h c = omega (arith, head_inside c.requires)

pub overflow_add-a : goal.overflow_add-a
overflow_add-a c = omega (arith, (own_inside c.requires c.of-row.ensures).2)

pub overflow_add-a-2 : goal.overflow_add-a-2
overflow_add-a-2 c = omega (arith, (own_inside c.requires c.of-row.ensures).2)

pub overflow_add-end : goal.overflow_add-end
overflow_add-end c = omega (arith, (own_inside c.requires c.of-row.ensures).2)

pub number-o-requires : goal.number-o-requires
number-o-requires c = (c.requires.width, omega (arith, head_inside c.requires))

pub overflow_add-h-2 : goal.overflow_add-h-2
overflow_add-h-2 c = omega (arith, head_inside c.requires)

pub size-z-requires : goal.size-z-requires
size-z-requires c = let inside = own_inside c.requires c.of-row.ensures in (inside.0, omega (arith, inside.2))

pub number-argument-requires : goal.number-argument-requires
number-argument-requires c = let inside = own_inside c.requires c.of-row.ensures in (inside.1, inside.2)

pub returns : goal.returns
returns c =
    own_loaded c.requires c.of-row.ensures
    c.from.ensures c.number-o.ensures c.size-z.ensures c.number-argument.ensures c.put_record.ensures
