-- `numbers_line`: the word, the numbers, the end; only the grouping differs from the definition's.
use Rattle.text.proofs.Appending.{joined, same}
use Rattle.answerlines.proofs.Spaced.{grouped}
use Rattle.answerlines.proofs.numbers_line.Goals as goal

pub returns : goal.returns
returns c =
    let a = c.args in
    same (joined c.put-to.ensures (joined c.put_numbers-next.ensures.0 (joined c.put_numbers-end.ensures.0 c.put.ensures)))
    (grouped a.word.now a.first.now a.more.now)
