-- `run_granted`: what the engine's run comes to, reported.
use mathlib.Core.Path.{refl, sym, ◌∙◌}
use native.Mathlib.Omega.{arith}
use Rattle.model.specs.State.{state}
use Rattle.host.proofs.Leans.{run_leans}
use Rattle.machine.proofs.Outcomes.{ran, run_done}
use Rattle.machine.proofs.Length.{held_length}
use Rattle.machine.proofs.run_granted.Goals as goal

pub go-e-requires : goal.go-e-requires
go-e-requires c =
    let a = c.args in
    let leans = run_leans (state a.m a.main.now a.swap.now) (held_length a.m _ c.well_formed.0) _ _ (sym c.requires) refl in
    (leans.0, omega (arith, leans.1))

pub returns : goal.returns
returns c =
    let a = c.args in
    let p = state a.m a.main.now a.swap.now in
    let leans = run_leans p (held_length a.m _ c.well_formed.0) _ _ (sym c.requires) refl in
    ran p _ _ _ c.go-e.ensures (omega (arith, leans.1)) ∙ run_done p _ _ (sym c.requires) refl
