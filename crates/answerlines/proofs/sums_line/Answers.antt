-- `sums_line`: the two sums.
use mathlib.Core.Path.{ap₂}
use mathlib.Core.List.{[], ◌∷◌}
use Prim.Native.Nat.{ℕ}
use Rattle.text.proofs.Appending.{same}
use Rattle.answerlines.specs.Lines.{numbers_line}
use Rattle.answerlines.proofs.sums_line.Goals as goal

pub returns : goal.returns
returns c =
    same c.numbers_line.ensures
    (ap₂ (λ (x y : ℕ). numbers_line c.args.word.now (x ∷ y ∷ [])) c.fnv1a.ensures c.fnv1a-2.ensures)
