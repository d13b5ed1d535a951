-- `check::hand_right`: a frame is free, or none is.
use Rattle.book.proofs.Ways.{hand_free, hand_full}
use borrow.Author.Rules.{rules}
use Rattle.book.proofs.check.hand_right.Goals as goal

pub returns-then-used-a : goal.returns-then-used-a
returns-then-used-a c = let a = c.args in λ held marks. hand_free a.a a.used a.hand held marks (search rules)

pub returns : goal.returns
returns c = let a = c.args in λ held marks. hand_full a.a a.used a.hand held marks (search rules)
