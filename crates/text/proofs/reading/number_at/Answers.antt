-- `reading::number_at`: `Reading` holds after each digit.
use native.Mathlib.Omega.{arith}
use Rattle.text.proofs.Numbers.{one_more, too_large, none_read, all_read, no_byte, below_digits, above_digits}
use Rattle.text.proofs.reading.number_at.Goals.{in_default, in_default-2, in_default-3}
use Rattle.text.proofs.reading.number_at.Goals as goal

pub returns-then-bound-value-clause-value : goal.returns-then-bound-value-clause-value
returns-then-bound-value-clause-value c =
    too_large c.loop-left.invariant (omega arith) (omega arith) (omega arith) (omega arith)

pub loop-left-preserved : goal.loop-left-preserved
loop-left-preserved c =
    one_more c.loop-left.invariant (omega arith) (omega arith) (omega arith) (omega arith) (omega arith)

pub returns-then-next-at-clause-value : goal.returns-then-next-at-clause-value
returns-then-next-at-clause-value c =
    let r = c.loop-left.invariant in
    none_read r (elim c.if-left-lt1.branch [
      | in_default w ↦ no_byte _ (omega arith)
      | in_default-2 w ↦ below_digits _ (omega arith)
      | in_default-3 w ↦ above_digits _ (omega arith)
    ]) (omega arith)

pub returns-clause-value : goal.returns-clause-value
returns-clause-value c =
    let r = c.loop-left.invariant in
    all_read r (elim c.if-left-lt1.branch [
      | in_default w ↦ no_byte _ (omega arith)
      | in_default-2 w ↦ below_digits _ (omega arith)
      | in_default-3 w ↦ above_digits _ (omega arith)
    ]) (omega arith)
