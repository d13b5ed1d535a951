-- `check::marks_right`: 1, shifted by b, is the first number with a bit of an unused frame.
use mathlib.Core.Path.{ap}
use lib.Dec.{ltb}
use lib.Pow.{pow_mono}
use native.Mathlib.Omega.{arith}
use borrow.Author.Rules.{rules}
use Rattle.book.proofs.check.marks_right.Goals as goal

pub returns : goal.returns
returns c = λ hand held. ap (ltb c.args.marks) (omega (arith, pow_mono {i = c.args.used} {j = 32} (search rules)))
