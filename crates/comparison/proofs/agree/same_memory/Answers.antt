-- `agree::same_memory`: before page x all pages below it are compared.
use mathlib.Core.Path.{refl}
use Prim.Native.Nat.{◌*◌}
use native.Mathlib.Omega.{arith}
use Rattle.comparison.proofs.Compared.{same_page_lem, same_end, flat_long}
use Rattle.comparison.proofs.agree.same_memory.Goals as goal

pub loop-x-init : goal.loop-x-init
loop-x-init c = refl

pub loop-x-preserved : goal.loop-x-preserved
loop-x-preserved c =
    let a = c.args in
    let long = flat_long c.requires in
    rw c.same_page-equal.ensures (same_page_lem _ a.memory.now c.loop-x.x (omega (arith, long)) (omega (arith, c.requires.long)) c.loop-x.equal c.loop-x.invariant)

pub returns : goal.returns
returns c =
    same_end _ c.args.memory.now c.loop-x.equal (4096 * c.loop-x.x) c.loop-x.invariant (omega (arith, flat_long c.requires)) (omega (arith, c.requires.long))
