-- `shows::frames_line`: the word, the numbers, the marks, the end; only the grouping differs from the definition's.
use Rattle.text.proofs.Appending.{joined, same}
use Rattle.script.specs.Vocabulary.{frames_word}
use Rattle.answerlines.proofs.Spaced.{grouped_last}
use Rattle.session.proofs.shows.frames_line.Goals as goal

pub returns : goal.returns
returns c =
    let a = c.args in
    same (joined c.put-to.ensures (joined c.put_numbers-next.ensures.0 (joined c.put_numbers-last.ensures.0 (joined c.put_spaced-end.ensures.0 c.put.ensures))))
    (grouped_last frames_word a.first.now a.held.now a.marks)
