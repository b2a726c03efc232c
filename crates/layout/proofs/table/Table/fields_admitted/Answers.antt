-- The invariant: what is left to be said of all fields is what is to be said of those from i on.
use Rattle.std.proofs.Common.{ap, not, arith}
use Rattle.layout.proofs.FieldRules.{no_component, too_early, past_32_bits, last_field, next_field}
use Rattle.layout.proofs.Types.{concrete_below}
use Rattle.layout.proofs.table.Table.fields_admitted.Goals as goal

pub returns-then-not-is_earlier : goal.returns-then-not-is_earlier
returns-then-not-is_earlier c =
    let f = c.field_at-offset in
    no_component c.loop-i.invariant c.loop-i-test.true f.result.offset f.result.ty f.ensures.0 f.ensures.1
    c.is_earlier.ensures (ap not c.if-not-is_earlier.true)

pub returns-then-offset-end : goal.returns-then-offset-end
returns-then-offset-end c =
    let f = c.field_at-offset in
    too_early c.loop-i.invariant c.loop-i-test.true f.result.offset f.result.ty f.ensures.0 f.ensures.1
    c.is_earlier.ensures (ap not c.if-not-is_earlier.false) c.if-offset-end.true

pub fixed_size-requires : goal.fixed_size-requires
fixed_size-requires c =
    let s = c.requires.standing.stand in
    let below = concrete_below s c.is_earlier.ensures (ap not c.if-not-is_earlier.false) in
    record { layouts = c.requires.standing.layouts; placed = s.placed; below = below }

pub returns-in_default : goal.returns-in_default
returns-in_default c =
    let f = c.field_at-offset in
    past_32_bits c.loop-i.invariant c.loop-i-test.true f.result.offset f.result.ty f.ensures.0 f.ensures.1
    c.is_earlier.ensures (ap not c.if-not-is_earlier.false) c.if-offset-end.false c.fixed_size.ensures (omega arith)

pub is_dynamic-requires : goal.is_dynamic-requires
is_dynamic-requires c =
    let s = c.requires.standing.stand in
    let below = concrete_below s c.is_earlier.ensures (ap not c.if-not-is_earlier.false) in
    record { layouts = c.requires.standing.layouts; placed = s.placed; below = below }

pub returns-then-is_dynamic : goal.returns-then-is_dynamic
returns-then-is_dynamic c =
    let f = c.field_at-offset in
    last_field c.loop-i.invariant c.loop-i-test.true f.result.offset f.result.ty f.ensures.0 f.ensures.1
    c.is_earlier.ensures (ap not c.if-not-is_earlier.false) c.if-offset-end.false
    c.fixed_size.ensures c.in-Some.ensures.0 c.is_dynamic.ensures c.if-is_dynamic.true

pub loop-i-preserved : goal.loop-i-preserved
loop-i-preserved c =
    let f = c.field_at-offset in
    let past = c.in-Some.ensures in
    next_field c.loop-i.invariant c.loop-i-test.true f.result.offset f.result.ty f.ensures.0 f.ensures.1
    c.is_earlier.ensures (ap not c.if-not-is_earlier.false) c.if-offset-end.false
    c.fixed_size.ensures past.0 c.is_dynamic.ensures past.1 c.if-is_dynamic.false
