-- `number`: a digit stands there, and what the number's reader answers.
use mathlib.Core.Path.{sym, ◌∙◌}
use native.Mathlib.Nat.{le_of_lt}
use Rattle.text.proofs.Numbers.{digit_inside}
use Rattle.sums.proofs.Ways.{no_digit, digits}
use Rattle.sums.proofs.number.Goals as goal

pub returns-then-not-digit_at : goal.returns-then-not-digit_at
returns-then-not-digit_at c = no_digit _ _ _ (sym c.digit_at.ensures ∙ c.if-not-digit_at.true)

pub number_at-requires : goal.number_at-requires
number_at-requires c =
    let a = c.args in
    le_of_lt (digit_inside a.s.now a.at (sym c.digit_at.ensures ∙ c.if-not-digit_at.false))

pub returns-in-Ok : goal.returns-in-Ok
returns-in-Ok c =
    let digit = sym c.digit_at.ensures ∙ c.if-not-digit_at.false in
    rw c.from.ensures (digits _ _ _ digit c.in-Ok.ensures.value)

pub returns-in-Err : goal.returns-in-Err
returns-in-Err c =
    let digit = sym c.digit_at.ensures ∙ c.if-not-digit_at.false in
    digits _ _ _ digit c.in-Err.ensures.value
