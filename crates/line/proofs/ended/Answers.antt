-- `ended`: blanks up to the end, or not.
use Rattle.line.proofs.Pieces.{not_ended, is_ended}
use borrow.Author.Rules.{rules}
use Rattle.line.proofs.ended.Goals as goal

pub returns-then-at-s : goal.returns-then-at-s
returns-then-at-s c =
    let a = c.args in not_ended a.s.now a.w a.n _ c.skip-at.ensures (search rules)

pub returns : goal.returns
returns c =
    let a = c.args in is_ended a.s.now a.w a.n _ c.skip-at.ensures (search rules)
