-- `copy`: after i turns the first i bytes have come.
use Rattle.words.proofs.Copies.{Copied}
use Rattle.words.proofs.copy.Given as goal

abbrev pub invariant-loop-i : goal.invariant-loop-i
invariant-loop-i l = Copied l.initial.to l.from l.to l.i
