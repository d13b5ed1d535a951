-- `blank` is the definition.
use native.Mathlib.Omega.{arith}
use Rattle.notation.specs.Sums.{is_blank}
use Rattle.sums.proofs.blank.Goals as goal

pub returns-in-32 : goal.returns-in-32
unfolding is_blank
returns-in-32 c = grind arith

pub returns-in_default : goal.returns-in_default
unfolding is_blank
returns-in_default c = grind arith
