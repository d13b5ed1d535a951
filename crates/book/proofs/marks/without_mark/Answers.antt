-- `marks::without_mark`: 1, shifted by f, is the bit of frame f.
use mathlib.Core.Path.{ap}
use Prim.Native.Nat.{ℕ}
use lib.Bits.{bit_and, bit_xor}
use lib.Pow.{pow-lt}
use native.Mathlib.Omega.{arith}
use borrow.Author.Rules.{rules}
use Rattle.book.proofs.marks.without_mark.Goals as goal

pub returns : goal.returns
returns c =
    let m = c.args.marks in
    ap (λ (k : ℕ). bit_xor m (bit_and m k)) (omega (arith, pow-lt {i = c.args.f} {j = 32} (search rules)))
