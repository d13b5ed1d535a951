-- `list`: its three ways.
use native.Mathlib.Omega.{arith}
use Rattle.workshop.proofs.Works.{refused, made, words_long, words_good, words_bad}
use Rattle.workshop.proofs.list.Goals as goal

pub returns-then-input-gt65536 : goal.returns-then-input-gt65536
returns-then-input-gt65536 c =
    let a = c.args in
    refused c.refused.ensures (words_long a.input.now a.out.now (omega arith))

pub returns-in-Ok : goal.returns-in-Ok
returns-in-Ok c =
    let a = c.args in
    made _ (words_good a.input.now a.out.now (omega arith) _ _ c.list.ensures _ c.in-Ok.is)

pub returns-in-Err : goal.returns-in-Err
returns-in-Err c =
    let a = c.args in
    refused c.refused-in-Err.ensures
    (words_bad a.input.now a.out.now (omega arith) _ _ c.list.ensures _ c.in-Err.is)
