-- `hex_line`: the word, the digits, the end.
use Rattle.text.proofs.Appending.{joined}
use Rattle.answerlines.proofs.hex_line.Goals as goal

pub returns : goal.returns
returns c =
    joined c.put-to.ensures (joined c.put_hex-end.ensures.0 c.put.ensures)
