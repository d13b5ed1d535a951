-- `put_number`: ten digits are enough for a number below 2^32.
use native.Mathlib.Omega.{arith}
use Rattle.text.proofs.Digits.{length_digits}
use Rattle.text.proofs.put_number.Goals as goal

pub returns : goal.returns
returns c =
    (c.put_digits.ensures, omega (arith, length_digits 9 c.args.n))
