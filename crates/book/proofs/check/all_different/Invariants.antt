-- `check::all_different`: the first j pages are all different, and the first i of them differ from page j.
use mathlib.Core.Path.{◌≡◌}
use mathlib.Core.Bool.{true}
use Rattle.model.specs.Choice.{every_below}
use Rattle.model.specs.Sound.{differs_before}
use Rattle.book.specs.Numbers.{book_of}
use Rattle.book.proofs.check.all_different.Given as goal

abbrev pub invariant-loop-i : goal.invariant-loop-i
invariant-loop-i l = (l.different ≡ true) × (differs_before (book_of l.used 0 l.held 0) l.j l.i ≡ true)

abbrev pub invariant-frames : goal.invariant-frames
invariant-frames l =
    (l.different ≡ true) × (every_below l.j (λ k. differs_before (book_of l.used 0 l.held 0) k k) ≡ true)
