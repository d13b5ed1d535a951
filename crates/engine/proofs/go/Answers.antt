-- `go` meets its contract: between two legs the run under way is `Running`, and each outcome of the next leg is one law. The measure:
-- the instructions and the loads that are left.
use mathlib.Core.Path.{refl}
use native.Mathlib.Omega.{arith}
use Rattle.laws.proofs.Seated.{safe}
use Rattle.engine.proofs.Running.{byte_most, begun, run_out, leg_few, leg_on, leg_trapped, leg_stopped, leg_never, leg_frame, leg_ready, leg_again}
use Rattle.cpu.proofs.Finishing.{finished_not}
use Rattle.engine.proofs.go.Goals as goal

pub loop-left-init : goal.loop-left-init
loop-left-init c = (omega arith, begun _ _ c.requires.0 refl refl)

pub leg_from-l-requires : goal.leg_from-l-requires
leg_from-l-requires c = (safe _ c.loop-left.invariant.1.good, c.loop-left-test.true)

pub marks_behind-requires : goal.marks_behind-requires
marks_behind-requires c =
    let good = c.loop-left.invariant.1.good in
    (omega (arith, good.fit.frames_in, good.fit.frames_least, good.fit.pages_most), (c.leg_from-l.ensures 0).framed)

pub returns-then-loads-limit : goal.returns-then-loads-limit
returns-then-loads-limit c =
    let inv = c.loop-left.invariant in
    absurd (leg_never _ _ _ _ _ _ _ _ _ _ _ inv.0 inv.1 _ _ _ c.leg_from-l.ensures _ c.marks_behind.ensures
    _ c.in-Missing.is (omega (arith, c.if-loads-limit.true)))

pub copies-requires : goal.copies-requires
copies-requires c =
    let inv = c.loop-left.invariant in
    leg_frame _ _ _ _ _ _ _ _ _ _ _ inv.0 inv.1 _ _ _ c.leg_from-l.ensures _ c.marks_behind.ensures
    _ c.in-Missing.is

pub overflow_add-copied : goal.overflow_add-copied
overflow_add-copied c =
    let inv = c.loop-left.invariant in
    omega (
      arith,
      (leg_on _ _ _ _ _ _ _ _ _ _ _ inv.0 inv.1 _ _ _ c.leg_from-l.ensures _ c.marks_behind.ensures).copied,
      byte_most c.copies.result,
      c.if-loads-limit.false,
      c.requires.1,
    )

pub load-book-requires : goal.load-book-requires
load-book-requires c =
    let inv = c.loop-left.invariant in
    leg_ready _ _ _ _ _ _ _ _ _ _ _ inv.0 inv.1 _ _ _ c.leg_from-l.ensures _ c.marks_behind.ensures
    _ c.in-Missing.is _ c.page_of.ensures

pub overflow_add-loads : goal.overflow_add-loads
overflow_add-loads c =
    omega (arith, c.if-loads-limit.false, c.requires.1)

pub loop-left-smaller-in-Missing : goal.loop-left-smaller-in-Missing
loop-left-smaller-in-Missing c =
    let inv = c.loop-left.invariant in
    omega (arith, (c.leg_from-l.ensures 0).few, inv.0, inv.1.loads, inv.1.within)

pub loop-left-preserved-in-Missing : goal.loop-left-preserved-in-Missing
loop-left-preserved-in-Missing c =
    let inv = c.loop-left.invariant in (
      leg_few _ _ _ _ _ _ _ _ _ _ _ inv.0 inv.1 _ _ _ c.leg_from-l.ensures _ c.marks_behind.ensures,
      leg_again _ _ _ _ _ _ _ _ _ _ _ inv.0 inv.1 _ _ _ c.leg_from-l.ensures _ c.marks_behind.ensures
          _ c.in-Missing.is _ c.page_of.ensures _ _ _ c.load-book.ensures
          _ _ (omega arith) (omega arith) _ (omega arith) _ c.copies.ensures _ (omega arith),
    )

pub returns-in-Trapped : goal.returns-in-Trapped
returns-in-Trapped c =
    let inv = c.loop-left.invariant in
    leg_trapped _ _ _ _ _ _ _ _ _ _ _ inv.0 inv.1 _ _ _ c.leg_from-l.ensures _ c.marks_behind.ensures
    _ _ c.in-Trapped.is _ c.finish-in-Trapped.ensures

pub returns-in-Stopped : goal.returns-in-Stopped
returns-in-Stopped c =
    let inv = c.loop-left.invariant in
    leg_stopped _ _ _ _ _ _ _ _ _ _ _ inv.0 inv.1 _ _ _ c.leg_from-l.ensures _ c.marks_behind.ensures
    _ c.in-Stopped.is _ c.finish-in-Stopped.ensures

pub loop-left-smaller : goal.loop-left-smaller
loop-left-smaller c =
    omega (arith, (c.leg_from-l.ensures 0).between (finished_not c.leg_from-l.result.outcome c.in_default.not-Trapped c.in_default.not-Missing c.in_default.not-Stopped))

pub loop-left-preserved : goal.loop-left-preserved
loop-left-preserved c =
    let inv = c.loop-left.invariant in (
      leg_few _ _ _ _ _ _ _ _ _ _ _ inv.0 inv.1 _ _ _ c.leg_from-l.ensures _ c.marks_behind.ensures,
      leg_on _ _ _ _ _ _ _ _ _ _ _ inv.0 inv.1 _ _ _ c.leg_from-l.ensures _ c.marks_behind.ensures,
    )

pub returns : goal.returns
returns c =
    let inv = c.loop-left.invariant in
    rw c.finish-2.ensures (run_out _ _ _ _ inv.1 (omega (arith, inv.0, c.loop-left-test.false)))

pub overflow_sub-limit : goal.overflow_sub-limit
overflow_sub-limit c = omega (arith, (c.leg_from-l.ensures 0).few, c.loop-left.invariant.0)

pub overflow_sub-limit-then-loads-limit : goal.overflow_sub-limit-then-loads-limit
overflow_sub-limit-then-loads-limit c = omega (arith, (c.leg_from-l.ensures 0).few, c.loop-left.invariant.0)

pub overflow_sub-limit-in-Trapped : goal.overflow_sub-limit-in-Trapped
overflow_sub-limit-in-Trapped c = omega (arith, (c.leg_from-l.ensures 0).few, c.loop-left.invariant.0)

pub overflow_add-limit : goal.overflow_add-limit
overflow_add-limit c = omega (arith, c.requires.1)
