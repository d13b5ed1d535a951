-- `reply`: refused, or the register is set.
use mathlib.Core.Path.{refl}
use native.Mathlib.Omega.{arith}
use Rattle.laws.proofs.Granted.{reply_leans}
use Rattle.machine.proofs.Outcomes.{reply_refused, reply_done}
use Rattle.machine.proofs.reply.Goals as goal

pub bounds-machine-i : goal.bounds-machine-i
bounds-machine-i c = omega (arith, reply_leans _ _ c.in-Ok.ensures refl)

pub returns-in-Err : goal.returns-in-Err
returns-in-Err c = reply_refused _ _ _ _ c.in-Err.ensures _ refl

pub returns-in-Ok : goal.returns-in-Ok
returns-in-Ok c =
    let granted = refl in
    let asked = c.in-Ok.ensures in
    reply_done _ _ _ _ asked granted _ (omega (arith, reply_leans _ _ asked granted))
