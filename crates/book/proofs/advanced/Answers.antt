-- `advanced`: a frame is free, or none is.
use native.Mathlib.Omega.{arith}
use Rattle.book.proofs.Ways.{grows, turns}
use borrow.Author.Rules.{rules}
use Rattle.book.proofs.advanced.Goals as goal

pub bounds-next-i : goal.bounds-next-i
bounds-next-i c = omega (arith, c.frame-f.ensures)

pub returns-then-b-a : goal.returns-then-b-a
returns-then-b-a c = grows _ _ _ _ (search rules) _ (search rules) (search rules)

pub returns : goal.returns
returns c = turns _ _ _ _ (search rules) _ (search rules) (search rules) _ (omega arith)

pub without_mark-requires : goal.without_mark-requires
without_mark-requires c = omega (arith, c.frame-f.ensures)
