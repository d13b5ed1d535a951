-- `put_digits`: the number without its last digit, then that digit. The measure is the digits that may be left.
use Rattle.text.proofs.+put_digits.Given as goal

abbrev pub decreases-put_digits : goal.decreases-put_digits
decreases-put_digits l = l.more
