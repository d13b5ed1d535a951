-- What the beginning, the stretches of a script and its end say, one after another, is all that is said to it (`whole_text`).
use mathlib.Core.Path.{ap, ◌∙◌}
use mathlib.Core.List.{append_assoc}
use Rattle.talk.specs.Stretch.{joined}
use Rattle.talk.proofs.Whole.{whole_talk}
use Rattle.comparison.specs.Line.{spoken}
use Rattle.comparison.specs.Compare.{closing, closed, begun_with, compare_text, WholeText}

pub whole_text : WholeText
unfolding compare_text
whole_text file pages script ts last a g h =
    let s = begun_with file pages in
    rw a (ap closed (whole_talk spoken s script ts last g h) ∙ append_assoc s.text (joined ts) (closing last.goes_on last.lines))
