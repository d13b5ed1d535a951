-- `access::reach`: misaligned, illegal, a fault, at a place.
use mathlib.Core.Path.{refl}
use Rattle.cpu.proofs.Ways.{reach_odd, reach_even}
use borrow.Author.Rules.{rules}
use Rattle.cpu.proofs.access.reach.Goals as goal

pub returns-then-va-width-ne0 : goal.returns-then-va-width-ne0
returns-then-va-width-ne0 c = let a = c.args in reach_odd a.width a.va _ (search rules)

pub returns-in-Illegal : goal.returns-in-Illegal
returns-in-Illegal c =
    let a = c.args in
    reach_even a.width a.va _ (search rules) _ c.in-Illegal.ensures _ refl

pub returns-in-Fault : goal.returns-in-Fault
returns-in-Fault c =
    let a = c.args in
    reach_even a.width a.va _ (search rules) _ c.in-Fault.ensures _ refl

pub returns-in-At : goal.returns-in-At
returns-in-At c =
    let a = c.args in
    reach_even a.width a.va _ (search rules) _ c.in-At.ensures _ refl
