-- `lengths_fit`: both as they must be. `Facts.lengths_broken` has the ways where one is another.
use native.Mathlib.Omega.{arith}
use Rattle.shape.proofs.Facts.{lengths}
use Rattle.shape.proofs.lengths_fit.Goals as goal

pub returns : goal.returns
returns c = lengths _ _ _ (omega arith) (omega arith)
