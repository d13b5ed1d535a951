-- `close`: nothing, or the line.
use native.Mathlib.Omega.{arith}
use borrow.Author.Tests.{not-true, not-false}
use Rattle.text.proofs.Appending.{nothing}
use Rattle.comparison.proofs.close.Goals as goal

pub returns-then-not-at : goal.returns-then-not-at
returns-then-not-at c =
    let a = c.args in
    rw (not-true a.at.goes_on c.if-not-at.true) (nothing a.out.now 0 (omega arith))

pub returns : goal.returns
returns c =
    let a = c.args in
    rw (not-false a.at.goes_on c.if-not-at.false) c.numbers_line.ensures
