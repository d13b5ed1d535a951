-- `run`: refused, or the definition's run.
use mathlib.Core.Path.{refl, sym}
use Rattle.model.specs.State.{state}
use Rattle.machine.proofs.Outcomes.{run_refused}
use Rattle.machine.proofs.run.Goals as goal

pub run_granted-requires : goal.run_granted-requires
run_granted-requires c =
    sym c.in-Ok.ensures

pub returns-in-Err : goal.returns-in-Err
returns-in-Err c =
    let a = c.args in
    run_refused (state a.m a.main.now a.swap.now) _ _ c.in-Err.ensures _ refl
