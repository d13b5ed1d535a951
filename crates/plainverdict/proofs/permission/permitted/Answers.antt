-- `permission::permitted`: no byte is asked for, the first is refused, or the last decides.
use mathlib.Core.Path.{refl, ap}
use mathlib.Core.Bool.{not}
use Prim.Native.Nat.{◌+◌, ◌-◌}
use native.Mathlib.Omega.{arith}
use Rattle.plainverdict.proofs.Rights.{permitted_none, first_refused, first_inside, by_last}
use borrow.Author.Rules.{rules}
use Rattle.plainverdict.proofs.permission.permitted.Goals as goal

pub returns-then-n-eq0 : goal.returns-then-n-eq0
returns-then-n-eq0 c = permitted_none _ _ _ _ (omega arith)

pub returns-then-not-granted : goal.returns-then-not-granted
returns-then-not-granted c = first_refused _ _ _ _ _ c.granted.ensures (omega arith) (ap not c.if-not-granted.true)

pub overflow_add-last : goal.overflow_add-last
overflow_add-last c =
    let a = c.args in
    omega (arith, first_inside a.rights.now a.writing a.va a.n _ c.granted.ensures (ap not c.if-not-granted.false))

pub returns : goal.returns
returns c =
    let a = c.args in
    by_last a.rights.now a.writing a.va a.n _ c.granted.ensures (ap not c.if-not-granted.false) (omega arith) (search rules)
    (a.va + (a.n - 1)) refl _ c.granted-2.ensures
