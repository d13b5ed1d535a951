-- `put_digits`: the number without its last digit, then that digit.
use Prim.Native.Nat.{◌+◌, ◌-◌, ◌/◌}
use native.Mathlib.Omega.{arith}
use Rattle.text.proofs.Appending.{byte}
use Rattle.text.proofs.Digits.{digits_one, more_digits, fewer_digits, length_digits, last_digit}
use Rattle.text.proofs.+put_digits.Goals as goal

pub returns-then-n-lt10 : goal.returns-then-n-lt10
returns-then-n-lt10 t c =
    let a = c.args in
    rw (digits_one a.more a.n (omega arith)) (byte a.out.now a.at (48 + a.n) (omega arith))

pub put_digits-last-requires : goal.put_digits-last-requires
put_digits-last-requires t c =
    let a = c.args in
    let p = more_digits a.more a.n (omega arith) (omega arith) in
    (omega arith, (omega arith, fewer_digits a.more a.n p (omega arith)))

pub bounds-out-last : goal.bounds-out-last
bounds-out-last t c =
    let a = c.args in
    omega (arith, length_digits (a.more - 1) (a.n / 10), more_digits a.more a.n (omega arith) (omega arith))

pub returns : goal.returns
returns t c =
    let a = c.args in
    let p = more_digits a.more a.n (omega arith) (omega arith) in
    last_digit a.more a.n (omega arith) p (omega (arith, length_digits (a.more - 1) (a.n / 10), p)) c.put_digits-last.ensures
