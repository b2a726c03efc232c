-- `table::Table::is_earlier` meets its contract: a type below the number of records has one, which stands at its place.
use Rattle.layout.proofs.table.Table.is_earlier.Goals as goal

pub is_concrete-requires : goal.is_concrete-requires
is_concrete-requires c =
    let p = c.requires.stand in
    record { layouts = c.requires.layouts; placed = p.placed; below = rw p.count c.if-ty-self.true }

pub returns-then-ty-self : goal.returns-then-ty-self
returns-then-ty-self c = record { is = λ ls p. c.is_concrete.ensures.is ls (p.placed c.args.ty (rw p.count c.if-ty-self.true)) }
