-- `kept`: each test of the definition.
use native.Mathlib.Omega.{arith}
use Rattle.std.proofs.lemmas.Bool.Decides.{nat_tests}
use Rattle.notation.specs.Sums.{kept}
use Rattle.sums.proofs.kept.Goals as goal

pub returns-then-not-contains : goal.returns-then-not-contains
unfolding kept
returns-then-not-contains c = grind (arith, nat_tests)

pub returns : goal.returns
unfolding kept
returns c = grind (arith, nat_tests)
