-- `clean::frames_clean`: the pages of the first f frames have their marks, or equal their swap pages.
use mathlib.Core.Path.{◌≡◌}
use mathlib.Core.Bool.{true}
use Rattle.model.specs.Choice.{every_below}
use Rattle.model.specs.State.{memory}
use Rattle.model.specs.Sound.{clean}
use Rattle.book.specs.Numbers.{book_of}
use Rattle.sound.proofs.clean.frames_clean.Given as goal

abbrev pub invariant-loop-f : goal.invariant-loop-f
invariant-loop-f l =
    (every_below l.f (λ k. clean l.s (book_of l.used 0 l.held l.marks) (memory l.main l.swap) k) ≡ true)
