-- `pages_of`: the first i pages have come.
use mathlib.Core.Path.{◌≡◌}
use lib.Seq.{paste}
use Rattle.record.specs.Words.{pages_of}
use Rattle.record.proofs.pages_of.Given as goal

abbrev pub invariant-loop-i : goal.invariant-loop-i
invariant-loop-i l = l.held ≡ paste l.initial.held 0 (pages_of l.fn.numbers) l.i
