-- `asm`: its three ways; a bad line's numbers are small because the text is.
use native.Mathlib.Omega.{arith}
use Rattle.workshop.proofs.Works.{refused, made, text_good, text_bad, small}
use Rattle.workshop.proofs.asm.Goals as goal

pub refused_at-requires-in-Err : goal.refused_at-requires-in-Err
refused_at-requires-in-Err c =
    let a = c.args in
    let few = small a.input.now a.out.now (omega arith) _ _ c.assemble.ensures _ _ _ c.in-Err.is in
    (omega arith, few.0, few.1)

pub returns-in-Ok : goal.returns-in-Ok
returns-in-Ok c =
    let a = c.args in
    made _ (text_good a.input.now a.out.now (omega arith) _ _ c.assemble.ensures _ c.in-Ok.is)

pub returns-in-Err : goal.returns-in-Err
returns-in-Err c =
    let a = c.args in
    refused c.refused_at-in-Err.ensures
    (text_bad a.input.now a.out.now (omega arith) _ _ c.assemble.ensures _ _ _ c.in-Err.is)
