-- `operand`: what a sum's value is.
use mathlib.Core.Path.{sym}
use Rattle.grammar.proofs.Sums.{sum_value}
use Rattle.line.proofs.operand.Goals as goal

pub fit-requires : goal.fit-requires
fit-requires c = (c.requires, (sum_value _ _ _ _ _ (sym c.in_ok-value.ensures)).2)
