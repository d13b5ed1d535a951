-- `step::step`: what the line asks for, by what the reader answered.
use native.Mathlib.Omega.{arith}
use Rattle.script.specs.Table.{call_row}
use Rattle.script.proofs.Asked.{short_rest, rest_keeps}
use Rattle.comparison.specs.Desk.{desk}
use Rattle.comparison.proofs.Asking.{asked_known}
use Rattle.comparison.proofs.Telling.{call_told, bad_told}
use Rattle.comparison.proofs.step.step.Goals as goal

pub slice_bounds-digits-count : goal.slice_bounds-digits-count
slice_bounds-digits-count c =
    (asked_known c.args.line.now c.read.ensures c.in-Ok.is).0

pub overflow_cast-bad : goal.overflow_cast-bad
overflow_cast-bad c =
    omega (arith, c.requires.2, asked_known c.args.line.now c.read.ensures c.in-Err.is)

pub slice_bounds-digits-start : goal.slice_bounds-digits-start
slice_bounds-digits-start c =
    (asked_known c.args.line.now c.read.ensures c.in-Ok.is).0

pub call-requires : goal.call-requires
call-requires c =
    let l = c.args.line.now in
    let g = c.in-Ok in
    let n = g.asked.numbers in (
      c.requires.0,
      c.requires.1,
      short_rest l n.hex c.requires.2,
      rest_keeps l n.hex (call_row g.asked.call) n (asked_known l c.read.ensures g.is).1,
    )

pub returns-in-Ok : goal.returns-in-Ok
returns-in-Ok c =
    let a = c.args in
    let g = c.in-Ok in record {
      tells = call_told a.number a.line.now c.read.ensures g.asked g.is
          (desk a.at a.main.now a.swap.now a.memory.now a.rights.now) c.call.result c.call.ensures.tells;
      stands = c.call.ensures.stands;
    }

pub returns-in-Err : goal.returns-in-Err
returns-in-Err c =
    let a = c.args in
    let g = c.in-Err in
    let b = bad_told a.number a.line.now c.read.ensures g.column g.is a.at a.main.now a.swap.now a.memory.now a.rights.now
    c.told.ensures c.numbers_line-last.ensures c.requires.0 in
    record { tells = b.0; stands = b.1 }
