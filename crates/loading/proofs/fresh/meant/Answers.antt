-- `fresh::meant`: 0, or another number.
use Rattle.std.proofs.Common.{rules, eq-eqb, ne_eqb}
use borrow.Author.Rules.{rules}
use Rattle.loading.proofs.fresh.meant.Goals as goal

pub returns-then-frames-eq0 : goal.returns-then-frames-eq0
returns-then-frames-eq0 c = rw (eq-eqb c.args.frames 0 (search rules))

pub returns : goal.returns
returns c = rw (ne_eqb c.args.frames 0 (search rules))
