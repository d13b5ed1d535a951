-- `check`: the lines before those that are left are good, and counted.
use lib.ListN.{length}
use Rattle.assembler.proofs.Passes.{Counted}
use Rattle.assembler.proofs.check.Given as goal

abbrev pub invariant-loop-line : goal.invariant-loop-line
invariant-loop-line l = Counted l.text l.left l.n

abbrev pub decreases-loop-line : goal.decreases-loop-line
decreases-loop-line l = length l.left
