-- `table::bring_entry`: the entry with ppx and v.
use native.Mathlib.Omega.{arith}
use Rattle.paging.proofs.Ways.{entry_written}
use Rattle.paging.proofs.table.bring_entry.Goals as goal

pub returns : goal.returns
returns c =
    entry_written _ _ _ _ _ _ _ c.put_number.ensures c.entry_at.ensures
    (omega (arith, c.kept.ensures, c.ppx_part.ensures, c.entry-e.ensures))
