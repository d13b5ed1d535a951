-- `compare` is the comparison of its number.
use Rattle.std.proofs.Common.{sym, ◌∙◌, arith}
use Rattle.alu.specs.Relations.{number_of}
use Rattle.alu.proofs.Words.{numbered, compared_same, compared_less, compared_more}
use Rattle.alu.proofs.compare.Goals as goal

pub returns-then-x-y : goal.returns-then-x-y
returns-then-x-y c =
    let a = c.args in
    let n = numbered a.r in
    rw n.0 (compared_same (number_of a.r) a.x a.y n.1 (omega arith) (omega arith) c.if-x-y.true)

pub returns-then-less : goal.returns-then-less
returns-then-less c =
    let a = c.args in
    let n = numbered a.r in
    rw n.0
    (compared_less (number_of a.r) a.x a.y n.1 (omega arith) (omega arith) c.if-x-y.false
    (sym c.less.ensures ∙ c.if-less.true))

pub returns-else-less : goal.returns-else-less
returns-else-less c =
    let a = c.args in
    let n = numbered a.r in
    rw n.0
    (compared_more (number_of a.r) a.x a.y n.1 (omega arith) (omega arith) c.if-x-y.false
    (sym c.less.ensures ∙ c.if-less.false))
