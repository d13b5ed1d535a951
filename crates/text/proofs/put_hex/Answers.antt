-- `put_hex`: after i turns the first i bytes stand in the buffer, two digits each.
use native.Mathlib.Omega.{arith}
use Rattle.text.specs.Text.{hex_of}
use Rattle.text.proofs.Appending.{nothing, length_appended}
use Rattle.text.proofs.Digits.{hex_step}
use Rattle.text.proofs.put_hex.Goals as goal

pub loop-b-init : goal.loop-b-init
unfolding hex_of
loop-b-init c = (omega arith, nothing c.args.out.now c.args.at (omega arith))

pub loop-b-preserved : goal.loop-b-preserved
loop-b-preserved c =
    let v = c.loop-b in
    let a = c.args in (
      omega arith,
      hex_step a.bytes.now v.b-index _ _ (omega arith) (omega (arith, length_appended)) c.hex_digit.ensures c.hex_digit-in-loop-b.ensures v.invariant.1,
    )
