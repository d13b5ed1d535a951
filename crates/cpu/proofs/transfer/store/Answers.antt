-- `transfer::store`: at a place, or not.
use Rattle.cpu.proofs.Ways.{store_at, store_ended}
use Rattle.cpu.proofs.transfer.store.Goals as goal

pub returns-in-At : goal.returns-in-At
returns-in-At g c = λ gpr.
    store_at g.row.N _ _ gpr _ _ _ _ c.in-At.is _ c.put_number.ensures _ c.stored.ensures

pub returns-in_default : goal.returns-in_default
returns-in_default g c = λ gpr. store_ended g.row.N _ _ gpr _ _ _ c.in_default.not-At _ c.stored-in_default.ensures
