-- `set_register`: the register's word.
use native.Mathlib.Omega.{arith}
use Rattle.plainrecord.proofs.Words.{register_set}
use borrow.Author.Rules.{rules}
use Rattle.plainrecord.proofs.set_register.Goals as goal

pub returns : goal.returns
returns c =
    let a = c.args in
    register_set a.to.now (search rules) a.i a.v (search rules) _ (omega arith)
