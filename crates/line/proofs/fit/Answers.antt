-- `fit`: outside the field, within it from 0 on, within it below 0.
use mathlib.Core.Path.{ap}
use Prim.Native.Nat.{◌+◌}
use native.Mathlib.Omega.{arith}
use Rattle.std.proofs.lemmas.Bool.Decides.{nat_tests}
use Rattle.line.proofs.Fields.{fit_not, fit_zero, fit_minus}
use Rattle.line.proofs.fit.Goals as goal

pub returns-then-not-contains : goal.returns-then-not-contains
returns-then-not-contains c =
    let a = c.args in
    fit_not _ _ _ _ _ _ (ap (λ x. a.v + x) c.below.ensures.0) (grind (arith, nat_tests))

pub returns-then-v-ge-ZERO : goal.returns-then-v-ge-ZERO
returns-then-v-ge-ZERO c =
    let a = c.args in
    fit_zero _ _ _ _ _ _ (ap (λ x. a.v + x) c.below.ensures.0) (grind (arith, nat_tests)) (grind (arith, nat_tests)) c.if-v-ge-ZERO.true

pub returns-else-v-ge-ZERO : goal.returns-else-v-ge-ZERO
returns-else-v-ge-ZERO c =
    let a = c.args in
    fit_minus _ _ _ _ _ _ (ap (λ x. a.v + x) c.below.ensures.0) (grind (arith, nat_tests)) (grind (arith, nat_tests)) (grind arith)
