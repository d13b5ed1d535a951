-- `copies`: a frame is free, or none is.
use mathlib.Core.Path.{◌∙◌}
use Rattle.book.proofs.Ways.{keeps, copied}
use borrow.Author.Rules.{rules}
use Rattle.book.proofs.copies.Goals as goal

pub returns-then-b-a : goal.returns-then-b-a
returns-then-b-a c = keeps _ c.args.b (search rules)

pub returns : goal.returns
returns c = c.marked.ensures ∙ copied _ c.args.b (search rules) _ (search rules)
