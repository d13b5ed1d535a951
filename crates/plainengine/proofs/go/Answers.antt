-- `go` meets its contract: between two legs the run under way is `Ran`, and each outcome of the next leg is one law. The measure: the
-- instructions that are left.
use mathlib.Core.Path.{refl}
use native.Mathlib.Omega.{arith}
use Rattle.plainengine.proofs.Running.{begun, run_out}
use Rattle.plainengine.proofs.Walking.{sized_over, leg_on, leg_trapped, leg_stopped, leg_missing}
use Rattle.cpu.proofs.Finishing.{finished_not}
use borrow.Author.Rules.{rules}
use Rattle.plainengine.proofs.go.Goals as goal

pub loop-left-init : goal.loop-left-init
loop-left-init c = (begun _ _, c.requires, refl)

pub leg_from-l-requires : goal.leg_from-l-requires
leg_from-l-requires c = (c.loop-left.invariant.1, search rules)

pub returns-in-Trapped : goal.returns-in-Trapped
returns-in-Trapped c =
    leg_trapped _ _ _ _ _ _ _ c.loop-left.invariant.0 _ _ _ c.leg_from-l.ensures _ _ c.in-Trapped.is _ c.finish.ensures

pub returns-in-Stopped : goal.returns-in-Stopped
returns-in-Stopped c =
    leg_stopped _ _ _ _ _ _ _ c.loop-left.invariant.0 _ _ _ c.leg_from-l.ensures _ c.in-Stopped.is _ c.finish-in-Stopped.ensures

pub returns-in-Missing : goal.returns-in-Missing
returns-in-Missing c =
    leg_missing _ _ _ _ _ _ _ c.loop-left.invariant.0 _ _ _ c.leg_from-l.ensures _ c.in-Missing.is _ c.finish-in-Missing.ensures

pub loop-left-smaller : goal.loop-left-smaller
loop-left-smaller c = c.leg_from-l.ensures.between (finished_not c.leg_from-l.result.outcome c.in_default.not-Trapped c.in_default.not-Missing c.in_default.not-Stopped)

pub loop-left-preserved : goal.loop-left-preserved
loop-left-preserved c =
    let inv = c.loop-left.invariant in
    (leg_on _ _ _ _ _ _ _ inv.0 _ _ _ c.leg_from-l.ensures, sized_over _ _ _ (search rules) inv.1, search rules)

pub returns : goal.returns
returns c =
    rw c.finish-2.ensures (run_out _ _ _ _ c.loop-left.invariant.0 (omega (arith, c.loop-left-test.false)))

pub overflow_sub-limit : goal.overflow_sub-limit
overflow_sub-limit c = omega (arith, c.leg_from-l.ensures.way.few, c.loop-left.invariant.0.few)

pub overflow_sub-limit-in-Stopped : goal.overflow_sub-limit-in-Stopped
overflow_sub-limit-in-Stopped c = omega (arith, c.leg_from-l.ensures.way.few, c.loop-left.invariant.0.few)

pub overflow_sub-limit-in-Missing : goal.overflow_sub-limit-in-Missing
overflow_sub-limit-in-Missing c = omega (arith, c.leg_from-l.ensures.way.few, c.loop-left.invariant.0.few)
