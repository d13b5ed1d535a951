-- `permission::permitted`: no byte is asked for, the first is refused, or the last decides.
use mathlib.Core.Bool.{not}
use mathlib.Core.Path.{ap, ◌∙◌}
use native.Mathlib.Omega.{arith}
use Rattle.model.specs.Translate.{legal}
use Rattle.verdict.proofs.Rights.{permitted_none, first_refused, first_inside}
use Rattle.verdict.proofs.permission.permitted.Goals as goal

pub returns-then-n-eq0 : goal.returns-then-n-eq0
returns-then-n-eq0 c = permitted_none _ _ _ _ _ (omega arith)

pub returns-then-not-legal : goal.returns-then-not-legal
returns-then-not-legal c =
    first_refused _ _ _ _ _ _ (c.legal.ensures ∙ ap legal c.locate.ensures) (omega arith) (ap not c.if-not-legal.true)

pub overflow_add-last : goal.overflow_add-last
overflow_add-last c =
    let a = c.args in
    omega (arith, first_inside _ _ _ _ a.n _ (c.legal.ensures ∙ ap legal c.locate.ensures) (ap not c.if-not-legal.false))
