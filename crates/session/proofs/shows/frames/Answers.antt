-- `shows::frames`: the pages by their numbers.
use mathlib.Core.Path.{ap}
use mathlib.Core.List.{List, [], ◌∷◌, ◌++◌}
use Prim.Native.Nat.{ℕ}
use Rattle.script.specs.Vocabulary.{frames_word}
use Rattle.text.proofs.Appending.{same}
use Rattle.answerlines.specs.Lines.{numbers_line}
use Rattle.session.proofs.shows.frames.Goals as goal

pub returns : goal.returns
returns c =
    let b = c.args.book in
    same c.frames_line.ensures
    (ap (λ (held : List ℕ). numbers_line frames_word ((b.used ∷ b.hand ∷ held) ++ (b.marks ∷ []))) c.numbers_of-numbers.ensures)
