-- `reading::number_at`: `Reading` holds after each digit.
use lib.ListN.{length}
use Rattle.text.proofs.Numbers.{Reading}
use Rattle.text.proofs.reading.number_at.Given as goal

abbrev pub invariant-loop-left : goal.invariant-loop-left
invariant-loop-left l = Reading l.line l.at l.most l.value l.left

abbrev pub decreases-loop-left : goal.decreases-loop-left
decreases-loop-left l = length l.left
