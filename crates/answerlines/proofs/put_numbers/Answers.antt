-- `put_numbers`: the first i are put.
use native.Mathlib.Omega.{arith}
use Rattle.text.proofs.Appending.{nothing, joined, same, length_appended}
use Rattle.answerlines.specs.Lines.{spaced_all}
use Rattle.answerlines.proofs.Spaced.{spaced_next}
use Rattle.answerlines.proofs.put_numbers.Goals as goal

pub loop-n-init : goal.loop-n-init
unfolding spaced_all
loop-n-init c = (omega arith, nothing c.args.out.now c.args.at (omega arith))

pub put_spaced-to-requires : goal.put_spaced-to-requires
put_spaced-to-requires c = let v = c.loop-n in omega (arith, length_appended v.invariant.1)

pub loop-n-preserved : goal.loop-n-preserved
loop-n-preserved c =
    let p = c.put_spaced-to in
    let v = c.loop-n in
    let numbers = c.args.numbers.now in (omega (arith, p.ensures.1), same (joined v.invariant.1 p.ensures.0) (spaced_next numbers v.n-index (omega arith)))
