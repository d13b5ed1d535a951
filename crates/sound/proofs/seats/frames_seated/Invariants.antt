-- `seats::frames_seated`: the first f pages are in the table, and seated.
use mathlib.Core.Path.{◌≡◌}
use mathlib.Core.Bool.{true}
use lib.Dec.{ltb}
use Rattle.model.specs.Choice.{every_below}
use Rattle.model.specs.Frames.{page_in}
use Rattle.model.specs.Sound.{seated}
use Rattle.book.specs.Numbers.{book_of}
use Rattle.sound.proofs.seats.frames_seated.Given as goal

abbrev pub invariant-loop-f : goal.invariant-loop-f
invariant-loop-f l =
    (every_below l.f (λ k. ltb (page_in (book_of l.used 0 l.held 0) k).0 l.s.ptl) ≡ true)
    × (every_below l.f (λ k. seated l.s (book_of l.used 0 l.held 0) l.main k) ≡ true)
