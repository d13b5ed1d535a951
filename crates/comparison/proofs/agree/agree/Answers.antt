-- `agree::agree`: test by test, in the definition's order.
use mathlib.Core.Path.{sym, ◌∙◌}
use Rattle.model.specs.State.{state}
use Rattle.comparison.proofs.Agreeing.{registers_differ, dpc_differs, next_differs, memory_tells}
use Rattle.comparison.proofs.agree.agree.Goals as goal

pub returns-then-not-same_registers : goal.returns-then-not-same_registers
returns-then-not-same_registers c =
    let a = c.args in
    registers_differ (state a.m a.main.now a.swap.now) a.plain a.memory.now
    (sym c.same_registers.ensures ∙ c.if-not-same_registers.true)

pub returns-then-m-plain : goal.returns-then-m-plain
returns-then-m-plain c =
    let a = c.args in
    dpc_differs (state a.m a.main.now a.swap.now) a.plain a.memory.now c.if-m-plain.true

pub returns-then-m-plain-2 : goal.returns-then-m-plain-2
returns-then-m-plain-2 c =
    let a = c.args in
    next_differs (state a.m a.main.now a.swap.now) a.plain a.memory.now c.if-m-plain-2.true

pub returns : goal.returns
returns c =
    let a = c.args in
    c.same_memory.ensures
    ∙ memory_tells (state a.m a.main.now a.swap.now) a.plain a.memory.now
    (sym c.same_registers.ensures ∙ c.if-not-same_registers.false) c.if-m-plain.false c.if-m-plain-2.false
