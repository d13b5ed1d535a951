-- `set_at`: there is such a word, or none.
use mathlib.Core.Path.{sym}
use lib.Seq.{set_out}
use borrow.Author.Rules.{rules}
use Rattle.record.proofs.set_at.Goals as goal

pub returns-else-at-to : goal.returns-else-at-to
returns-else-at-to c = let a = c.args in sym (set_out a.to.now a.i a.v (search rules))
