-- `cleared` meets its contract: zeros from the start on are zeros all over.
use Rattle.std.proofs.Common.{arith}
use native.Mathlib.Numerals.{unary_clauses}
use Rattle.std.specs.Prelude.{Result, Ok, Err, OnErr}
use Rattle.call_answers.proofs.cleared.Goals as goal

on_err : {T E P : Type 0} → (r : Result T E) → P → OnErr r P
on_err (Ok x) p = tt {0}
on_err (Err e) p = p

pub zero-requires : goal.zero-requires
zero-requires c = omega arith

pub returns-then-is_err-clause-refused : goal.returns-then-is_err-clause-refused
returns-then-is_err-clause-refused c = on_err c.args.r (simp unary_clauses at c.zero.ensures)
