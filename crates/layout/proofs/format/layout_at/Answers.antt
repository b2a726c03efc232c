-- The record is whole, so each kind has its bytes, and they are what the definitions read.
use native.Mathlib.Omega.{arith}
use borrow.Author.Rules.{rules}
use Rattle.layout.proofs.Layouts.{held, reads_handle, reads_failed, reads_scalar, reads_elements, reads_fields}
use Rattle.layout.proofs.format.layout_at.Goals as goal

pub returns-in-35 : goal.returns-in-35
returns-in-35 c = search (reads_handle, rules)

pub returns-in-36 : goal.returns-in-36
returns-in-36 c = search (reads_failed, rules)

pub concrete_at-requires : goal.concrete_at-requires
concrete_at-requires c = let h = held c.requires in omega arith

pub returns-in-32 : goal.returns-in-32
returns-in-32 c = search (reads_scalar, rules)

pub array_at-requires : goal.array_at-requires
array_at-requires c = let h = held c.requires in omega arith

pub concrete_at-requires-in-33 : goal.concrete_at-requires-in-33
concrete_at-requires-in-33 c = let h = held c.requires in omega arith

pub returns-in-33 : goal.returns-in-33
returns-in-33 c = search (reads_elements, rules)

pub field_list_at-requires : goal.field_list_at-requires
field_list_at-requires c = let h = held c.requires in omega arith

pub concrete_at-requires-in_default : goal.concrete_at-requires-in_default
concrete_at-requires-in_default c = let h = held c.requires in omega arith

pub returns-in_default : goal.returns-in_default
returns-in_default c = search (reads_fields, rules)
