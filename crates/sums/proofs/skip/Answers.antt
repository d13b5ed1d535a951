-- `skip`: nothing is taken behind the line; the blanks from there on are those that are taken.
use Rattle.sums.proofs.Ways.{none_taken, taken}
use Rattle.sums.proofs.skip.Goals as goal

pub returns-then-s-at : goal.returns-then-s-at
returns-then-s-at c = none_taken c.args.s.now c.args.at c.if-s-at.true

pub returns : goal.returns
returns c = taken c.args.s.now c.args.at c.blanks.ensures
