-- `format::frames_right`: frames 0, or the test of frames.
use borrow.Author.Tests.{eq-eqb, ne_eqb}
use borrow.Author.Rules.{rules}
use Rattle.image.proofs.format.frames_right.Goals as goal

pub returns-then-frames-eq0 : goal.returns-then-frames-eq0
returns-then-frames-eq0 c = rw (eq-eqb c.args.frames 0 (search rules))

pub returns : goal.returns
returns c = rw (ne_eqb c.args.frames 0 (search rules))
