-- `shows::show`: the frame book, or the sums.
use mathlib.Core.Path.{sym, ap}
use Rattle.model.specs.State.{state}
use Rattle.script.specs.declared.Show.{Show}
use Rattle.text.proofs.Appending.{same}
use Rattle.session.specs.Answers.{show_text}
use Rattle.session.proofs.shows.show.Goals as goal

pub returns-in-Frames : goal.returns-in-Frames
unfolding show_text
returns-in-Frames c =
    let a = c.args in
    same c.frames.ensures (ap (λ (x : Show). show_text x (state a.m a.main.now a.swap.now)) (sym c.in-Frames.is))

pub returns-in-Sum : goal.returns-in-Sum
unfolding show_text
returns-in-Sum c =
    let a = c.args in
    same c.sums_line.ensures (ap (λ (x : Show). show_text x (state a.m a.main.now a.swap.now)) (sym c.in-Sum.is))
