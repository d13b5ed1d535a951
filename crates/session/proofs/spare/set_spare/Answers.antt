-- `spare::set_spare`: untouched, or the entry with other spare bits.
use native.Mathlib.Omega.{arith}
use Rattle.session.proofs.Sparing.{outside, inside}
use borrow.Author.Rules.{rules}
use Rattle.session.proofs.spare.set_spare.Goals as goal

pub returns-then-lent-at : goal.returns-then-lent-at
returns-then-lent-at c = outside _ _ _ _ _ _ c.entry_at-at.ensures (search rules)

pub returns : goal.returns
returns c =
    inside _ _ _ _ _ _ c.entry_at-at.ensures (search rules) _ c.number_at-e.ensures _ _ c.put_number.ensures (omega arith)
