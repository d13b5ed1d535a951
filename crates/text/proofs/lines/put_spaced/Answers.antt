-- `put_spaced`: the space, then the number.
use native.Mathlib.Omega.{arith}
use Rattle.text.proofs.Appending.{joined}
use Rattle.text.proofs.lines.put_spaced.Goals as goal

pub returns : goal.returns
returns c =
    (joined c.put-to.ensures c.put_number.ensures.0, omega arith)
