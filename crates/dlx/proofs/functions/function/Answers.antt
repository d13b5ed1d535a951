-- `function` is the table of the functions under opcode 0, row by row.
use Rattle.dlx.proofs.Unknown.{unknown_function}
use Rattle.std.proofs.Common.{rules}
use borrow.Author.Rules.{rules}
use Rattle.dlx.proofs.functions.function.Goals as goal

pub returns-in_default : goal.returns-in_default
returns-in_default c = λ next. unknown_function next c.args.w c.args.x c.args.y (search rules)
