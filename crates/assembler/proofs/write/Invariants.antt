-- `write`: the words of the lines before those that are left stand in the output.
use lib.ListN.{length}
use Rattle.assembler.proofs.Passes.{Written}
use Rattle.assembler.proofs.write.Given as goal

abbrev pub invariant-loop-line : goal.invariant-loop-line
invariant-loop-line l = Written l.text l.initial.out l.lines l.left l.n l.out

abbrev pub decreases-loop-line : goal.decreases-loop-line
decreases-loop-line l = length l.left
