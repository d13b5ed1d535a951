-- `rights::reach`: misaligned, beyond the rights, without the right, at the address.
use mathlib.Core.Path.{refl, ap}
use mathlib.Core.Bool.{not}
use native.Mathlib.Omega.{arith}
use Rattle.cpu.proofs.Ways.{reach_odd, reach_even}
use Rattle.plaincpu.proofs.Ways.{no_right, granted}
use borrow.Author.Rules.{rules}
use Rattle.plaincpu.proofs.rights.reach.Goals as goal

pub returns-then-va-width-ne0 : goal.returns-then-va-width-ne0
returns-then-va-width-ne0 c = let a = c.args in reach_odd a.width a.va _ (search rules)

pub returns-then-not-grants : goal.returns-then-not-grants
returns-then-not-grants c =
    let a = c.args in
    reach_even a.width a.va _ (search rules) _
    (no_right _ a.writing a.va _ _ c.grants.ensures (search rules) (omega arith) (ap not c.if-not-grants.true)) _ refl

pub returns : goal.returns
returns c =
    let a = c.args in
    reach_even a.width a.va _ (search rules) _
    (granted _ a.writing a.va _ _ c.grants.ensures (search rules) (omega arith) (ap not c.if-not-grants.false)) _ refl
