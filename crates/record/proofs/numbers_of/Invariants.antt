-- `numbers_of`: the first i numbers have come.
use mathlib.Core.Path.{◌≡◌}
use lib.Seq.{paste}
use Rattle.record.specs.Words.{numbers_of}
use Rattle.record.proofs.numbers_of.Given as goal

abbrev pub invariant-loop-i : goal.invariant-loop-i
invariant-loop-i l = l.numbers ≡ paste l.initial.numbers 0 (numbers_of l.fn.held) l.i
