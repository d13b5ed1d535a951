-- `table::change_row`: the row of each change.
use mathlib.Core.Path.{sym, ap}
use Rattle.plainsession.specs.Table.{change_row}
use Rattle.plainsession.proofs.table.change_row.Goals as goal

pub returns-in-Memory : goal.returns-in-Memory
returns-in-Memory c = ap change_row (sym c.in-Memory.is)

pub returns-in-Rights : goal.returns-in-Rights
returns-in-Rights c = ap change_row (sym c.in-Rights.is)

pub returns-in-Record : goal.returns-in-Record
returns-in-Record c = ap change_row (sym c.in-Record.is)

pub returns-in-Lend : goal.returns-in-Lend
returns-in-Lend c = ap change_row (sym c.in-Lend.is)
