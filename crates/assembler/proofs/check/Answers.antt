-- `check`: the lines before those that are left are good, and counted.
use native.Mathlib.Omega.{arith}
use Rattle.assembler.proofs.Passes.{count_none, count_end, count_bad, count_place, count_more}
use Rattle.assembler.proofs.check.Goals as goal

pub loop-line-init : goal.loop-line-init
loop-line-init c = count_none c.args.text.now

pub overflow_add-result-in-Err : goal.overflow_add-result-in-Err
overflow_add-result-in-Err c =
    let first = c.in-Some.ensures in
    omega (arith, count_place c.loop-line.invariant _ _ first.0 first.1 c.in-Err.ensures)

pub returns-in-Err : goal.returns-in-Err
returns-in-Err c = count_bad c.loop-line.invariant _ _ c.in-Some.ensures.0 c.in-Err.ensures (omega arith) (omega arith)

pub loop-line-preserved : goal.loop-line-preserved
loop-line-preserved c =
    let first = c.in-Some.ensures in
    count_more c.loop-line.invariant _ _ first.0 first.2 c.in_default-read.ensures

pub returns : goal.returns
returns c = count_end c.loop-line.invariant c.in_default.ensures
