-- `check::rest_zero`: whether the pages from b to i are 0.
use mathlib.Core.Path.{◌≡◌}
use Prim.Native.Nat.{◌+◌}
use Rattle.model.specs.Choice.{every_below}
use Rattle.model.specs.Sound.{zero_from}
use Rattle.book.specs.Numbers.{book_of}
use Rattle.book.proofs.check.rest_zero.Given as goal

abbrev pub invariant-loop-x : goal.invariant-loop-x
invariant-loop-x l = l.zero ≡ every_below (l.used + l.x-index) (λ k. zero_from (book_of l.used 0 l.held 0) k)
