-- `immediate` is the table of opcodes, row by row.
use Rattle.std.proofs.Common.{arith, rules}
use Rattle.dlx.proofs.Unknown.{unknown_opcode}
use borrow.Author.Rules.{rules}
use Rattle.dlx.proofs.decode.immediate.Goals as goal

pub returns-in_default : goal.returns-in_default
returns-in_default c = unknown_opcode c.args.next c.args.w _ _ _ (omega arith) (search rules)
