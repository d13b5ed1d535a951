-- `table::put_out_entry`: the entry without ppx and v.
use native.Mathlib.Omega.{arith}
use Rattle.paging.proofs.Ways.{entry_written}
use Rattle.paging.proofs.table.put_out_entry.Goals as goal

pub returns : goal.returns
returns c =
    entry_written _ _ _ _ _ _ _ c.put_number.ensures c.entry_at.ensures
    (omega (arith, c.kept.ensures, c.entry-e.ensures))
