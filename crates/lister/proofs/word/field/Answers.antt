-- `field`: a remainder is below its divisor.
use mathlib.Core.Path.{refl}
use native.Mathlib.Nat.{mod-lt}
use native.Mathlib.Omega.{arith}
use Rattle.lister.proofs.word.field.Goals as goal

pub returns : goal.returns
returns c = (refl, mod-lt _ (omega arith))
