-- `put_line`: the word, the number, the end of the line.
use native.Mathlib.Omega.{arith}
use Rattle.text.proofs.Appending.{joined}
use Rattle.text.proofs.lines.put_line.Goals as goal

pub returns : goal.returns
returns c =
    (joined c.put-to.ensures (joined c.put_spaced-end.ensures.0 c.put.ensures), omega arith)
