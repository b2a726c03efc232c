-- `table::Table::field_contains` meets its contract. The check finds this alone; written out, a wrong answer fails soon.
use Rattle.std.proofs.Common.{rules}
use Rattle.layout.proofs.table.Table.field_contains.Goals as goal

pub returns-then-is_dynamic : goal.returns-then-is_dynamic
returns-then-is_dynamic c = search rules
