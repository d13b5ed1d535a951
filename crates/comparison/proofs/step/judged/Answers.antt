-- `step::judged`: nothing behind the answer, or `differ LINE`.
use native.Mathlib.Omega.{arith}
use Rattle.text.proofs.Appending.{nothing}
use Rattle.comparison.proofs.Called.{judged_alike, judged_differ}
use Rattle.comparison.proofs.step.judged.Goals as goal

pub returns-then-alike : goal.returns-then-alike
returns-then-alike c =
    let a = c.args in
    judged_alike a.machine a.plain a.number c.if-alike.true c.told.ensures (nothing a.out.now a.at (omega (arith, c.requires)))

pub returns : goal.returns
returns c =
    let a = c.args in
    judged_differ a.machine a.plain a.number c.if-alike.false c.told-2.ensures c.numbers_line-filled.ensures
