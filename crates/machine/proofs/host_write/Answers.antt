-- `host_write`: refused, or the bytes are written and the frames that get some are marked.
use mathlib.Core.Path.{refl}
use Rattle.model.specs.State.{state}
use Rattle.machine.proofs.Outcomes.{write_refused, write_done}
use Rattle.host.proofs.Leans.{host_leans, host_most}
use Rattle.machine.proofs.Length.{held_length}
use Rattle.machine.proofs.host_write.Goals as goal

pub marks_for-machine-requires : goal.marks_for-machine-requires
marks_for-machine-requires c =
    let a = c.args in
    let p = state a.m a.main.now a.swap.now in
    let held = held_length a.m _ c.well_formed.0 in
    let leans = host_leans p held _ _ _ _ c.in-Ok.ensures refl in
    (leans.0.safe, leans.1, host_most p held _ _ _ _ c.in-Ok.ensures refl)

pub write_bytes-requires : goal.write_bytes-requires
write_bytes-requires c =
    let a = c.args in
    host_leans (state a.m a.main.now a.swap.now) (held_length a.m _ c.well_formed.0) _ _ _ _
    c.in-Ok.ensures refl

pub returns-in-Err : goal.returns-in-Err
returns-in-Err c =
    let a = c.args in
    write_refused (state a.m a.main.now a.swap.now) _ _ _ c.in-Err.ensures _ refl

pub returns-in-Ok : goal.returns-in-Ok
returns-in-Ok c =
    let a = c.args in
    write_done (state a.m a.main.now a.swap.now) _ _ _ c.in-Ok.ensures refl _
    c.marks_for-machine.ensures _ c.write_bytes.ensures
