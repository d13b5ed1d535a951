-- `table::has`: bit 1, or bit 2.
use Rattle.paging.proofs.Ways.{has_write, has_read}
use Rattle.paging.proofs.table.has.Goals as goal

pub returns-then-writing : goal.returns-then-writing
returns-then-writing c = has_write _ _ c.if-writing.true

pub returns : goal.returns
returns c = has_read _ _ c.if-writing.false
