-- `marks::with_mark`: 1, shifted by f, is the bit of frame f.
use mathlib.Core.Path.{ap}
use lib.Bits.{bit_or}
use lib.Pow.{pow-lt}
use native.Mathlib.Omega.{arith}
use borrow.Author.Rules.{rules}
use Rattle.book.proofs.marks.with_mark.Goals as goal

pub returns : goal.returns
returns c = ap (bit_or c.args.marks) (omega (arith, pow-lt {i = c.args.f} {j = 32} (search rules)))
