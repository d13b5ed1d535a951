-- `host_read`: refused, or the buffer is filled.
use mathlib.Core.Path.{refl}
use Rattle.std.proofs.lemmas.Result.{err_from_is_err_and}
use Rattle.model.specs.State.{state}
use Rattle.machine.proofs.Outcomes.{read_refused, read_done}
use Rattle.host.proofs.Leans.{host_leans}
use Rattle.machine.proofs.Length.{held_length}
use Rattle.machine.proofs.host_read.Goals as goal

pub read_bytes-requires : goal.read_bytes-requires
read_bytes-requires c =
    let a = c.args in
    host_leans (state a.m a.main.now a.swap.now) (held_length a.m _ c.well_formed.0) _ _ _ _
    c.in_ok-host_verdict.ensures refl

pub returns-in_err-host_verdict : goal.returns-in_err-host_verdict
returns-in_err-host_verdict c =
    let p = err_from_is_err_and c.from_residual.result c.from_residual.ensures.1 in
    rw (p.1, p.2) (read_refused _ _ _ _ c.in_err-host_verdict.ensures _ refl)

pub returns : goal.returns
returns c =
    let a = c.args in
    read_done (state a.m a.main.now a.swap.now) _ _ _ c.in_ok-host_verdict.ensures refl _
    c.read_bytes.ensures
